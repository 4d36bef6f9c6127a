-- What was put so far stands before the texts of what is left.
use Rattle.std.proofs.Common.{◌≡◌, ◌++◌, drop}
use Rattle.std.specs.List.{flat_map}
use Rattle.plan_svg.specs.Shapes.{robot, shape_text}
use Rattle.plan_svg.specs.declared.class.Class.TheVariants.{Step}
use Rattle.plan_picture.proofs.shown.put_robots.Given as goal

abbrev pub invariant-loop-point : goal.invariant-loop-point
invariant-loop-point l = l.out.items ++ flat_map (λ p. shape_text (robot Step p)) (drop l.point-index l.points) ≡ l.initial.out.items ++ flat_map (λ p. shape_text (robot Step p)) l.points
