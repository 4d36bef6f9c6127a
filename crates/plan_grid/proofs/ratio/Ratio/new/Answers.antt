-- Division by the greatest common divisor keeps the value and leaves no divisor.
use Rattle.std.proofs.Common.{rules, ◌≡◌, pos, ◌*ℤ◌, w64, SFits, to_z-of_z, arith}
use Rattle.std.specs.Int.{w128}
use Rattle.std.proofs.lemmas.Int.{fits_signed_from_abs}
use Rattle.plan_grid.specs.Bounds.{IsDivisor}
use Rattle.plan_grid.proofs.Lowest.{on_axis, fraction_is_same, fraction_is_ratio}
use Rattle.plan_grid.proofs.ratio.Ratio.new.Goals as goal
use Rattle.plan_grid.proofs.ratio.Ratio.new.Goals.{After-quotient-2}

num_fits : (c : After-quotient-2) → SFits w64 c.args.num
num_fits c = fits_signed_from_abs w64 c.args.num (omega arith)

den_fits : (c : After-quotient-2) → SFits w64 c.args.den
den_fits c = fits_signed_from_abs w64 c.args.den (omega arith)

num : (c : After-quotient-2) → c.quotient.result *ℤ pos c.divisor-d.result ≡ c.args.num
num c =
    let wide : SFits w128 c.args.num = c.ranges.num in
    let narrow = num_fits c in
    simp to_z-of_z at c.quotient.ensures

den : (c : After-quotient-2) → c.quotient-2.result *ℤ pos c.divisor-d.result ≡ c.args.den
den c =
    let wide : SFits w128 c.args.den = c.ranges.den in
    let narrow = den_fits c in
    simp to_z-of_z at c.quotient-2.ensures

divisor : (c : After-quotient-2) → IsDivisor (on_axis (record { num = c.args.num; den = c.args.den })) c.divisor-d.result
divisor c =
    let num_wide : SFits w128 c.args.num = c.ranges.num in
    let num_narrow = num_fits c in
    let den_wide : SFits w128 c.args.den = c.ranges.den in
    let den_narrow = den_fits c in
    simp to_z-of_z at c.divisor-d.ensures

pub invariant_of-result : goal.invariant_of-result
invariant_of-result c =
    let n : SFits w64 c.quotient.result = search rules in
    let d : SFits w64 c.quotient-2.result = search rules in
    rw (to_z-of_z n, to_z-of_z d) (fraction_is_ratio _ _ _ (num c) (den c) (divisor c) c.requires.positive c.requires.den_bounded c.requires.num_bounded)

pub returns-clause-value : goal.returns-clause-value
returns-clause-value c =
    let n : SFits w64 c.quotient.result = search rules in
    let d : SFits w64 c.quotient-2.result = search rules in
    rw (to_z-of_z n, to_z-of_z d) (fraction_is_same _ _ _ (num c) (den c) (divisor c))

pub returns-clause-in_range : goal.returns-clause-in_range
returns-clause-in_range c = invariant_of-result c
