-- What was put so far stands before the texts of what is left.
use Rattle.std.proofs.Common.{◌≡◌, ◌++◌, drop}
use Rattle.std.specs.List.{flat_map}
use Rattle.plan_grid.specs.Spot.{spots_seen}
use Rattle.plan_svg.specs.Shapes.{polygon, shape_text}
use Rattle.plan_svg.specs.declared.class.Class.TheVariants.{Sum}
use Rattle.plan_picture.proofs.ground.put_ground.Given as goal

abbrev pub invariant-loop-sum : goal.invariant-loop-sum
invariant-loop-sum l =
    l.out.items ++ flat_map (λ s. shape_text (polygon Sum (spots_seen s))) (drop l.sum-index l.sums) ≡ l.initial.out.items ++ flat_map (λ s. shape_text (polygon Sum (spots_seen s))) l.sums
