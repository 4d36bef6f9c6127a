-- Division by the greatest common divisor keeps the position and leaves no divisor.
use Rattle.std.proofs.Common.{rules, w64, SFits, to_z-of_z}
use Rattle.plan_grid.proofs.Lowest.{IsReduced, reduced_is_same, reduced_is_in_range}
use Rattle.plan_grid.proofs.point.Point.lowest.Goals as goal
use Rattle.plan_grid.proofs.point.Point.lowest.Goals.{After-quotient-3}

reduced : (c : After-quotient-3) → IsReduced (record { x = c.args.x; y = c.args.y; w = c.args.w }) (record { x = c.quotient.result; y = c.quotient-2.result; w = c.quotient-3.result }) c.divisor-g.result
reduced c =
    let x_fits : SFits w64 c.args.x = c.ranges.x in
    let y_fits : SFits w64 c.args.y = c.ranges.y in
    let w_fits : SFits w64 c.args.w = c.ranges.w in
    record {
      x = simp to_z-of_z at c.quotient.ensures;
      y = simp to_z-of_z at c.quotient-2.ensures;
      w = simp to_z-of_z at c.quotient-3.ensures;
      divisor = simp to_z-of_z at c.divisor-g.ensures;
    }

pub invariant_of-result : goal.invariant_of-result
invariant_of-result c =
    let x : SFits w64 c.quotient.result = search rules in
    let y : SFits w64 c.quotient-2.result = search rules in
    let w : SFits w64 c.quotient-3.result = search rules in
    rw (to_z-of_z x, to_z-of_z y, to_z-of_z w) (reduced_is_in_range _ _ _ (reduced c) c.requires)

pub returns-clause-same : goal.returns-clause-same
returns-clause-same c =
    let x : SFits w64 c.quotient.result = search rules in
    let y : SFits w64 c.quotient-2.result = search rules in
    let w : SFits w64 c.quotient-3.result = search rules in
    rw (to_z-of_z x, to_z-of_z y, to_z-of_z w) (reduced_is_same _ _ _ (reduced c))

pub returns-clause-in_range : goal.returns-clause-in_range
returns-clause-in_range c = invariant_of-result c
