-- What was put so far stands before the texts of what is left.
use Rattle.std.proofs.Common.{◌≡◌, ◌++◌, drop}
use Rattle.std.specs.List.{flat_map}
use Rattle.plan_svg.specs.Shapes.{shape_text}
use Rattle.plan_top.specs.First.{obstacle_of}
use Rattle.plan_picture.specs.Floor.{obstacle_shape}
use Rattle.plan_picture.proofs.ground.put_obstacles.Given as goal

abbrev pub invariant-loop-obstacle : goal.invariant-loop-obstacle
invariant-loop-obstacle l =
    l.out.items ++ flat_map (λ o. shape_text (obstacle_shape l.touched (obstacle_of o))) (drop l.obstacle-index l.obstacles)
    ≡ l.initial.out.items ++ flat_map (λ o. shape_text (obstacle_shape l.touched (obstacle_of o))) l.obstacles
