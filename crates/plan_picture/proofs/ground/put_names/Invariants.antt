-- What was put so far stands before the ids that are left.
use Rattle.std.proofs.Common.{◌≡◌, ◌++◌, drop, map}
use Rattle.plan_svg.specs.Shapes.{shapes_text}
use Rattle.plan_top.specs.First.{obstacle_of}
use Rattle.plan_picture.specs.Floor.{name_shapes}
use Rattle.plan_picture.proofs.ground.put_names.Given as goal

abbrev pub invariant-loop-at : goal.invariant-loop-at
invariant-loop-at l =
    l.out.items ++ shapes_text (name_shapes (map obstacle_of (drop l.at l.obstacles)) (drop l.at l.places))
    ≡ l.initial.out.items ++ shapes_text (name_shapes (map obstacle_of l.obstacles) l.places)
