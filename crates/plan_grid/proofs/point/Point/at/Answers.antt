-- Both coordinates over the common denominator are the numbers of the point.
use Rattle.std.proofs.Common.{rules, ◌≡◌, pos, ◌<ℤ◌, w64, SFits, to_z, to_z-of_z, refl, arith}
use Rattle.std.proofs.lemmas.Int.{ints, to_z_pos, fits_signed_from_abs}
use Rattle.std.specs.Int.{w128}
use Rattle.plan_exact.proofs.Laws.{mul_comm}
use Rattle.plan_grid.proofs.OverLcm.{in_range_over}
use Rattle.plan_grid.proofs.Values.{coordinate_value}
use Rattle.plan_grid.proofs.point.Point.at.Goals as goal
use Rattle.plan_grid.proofs.point.Point.at.Goals.{After-get-2}

x_fits : (c : After-get-2) → SFits w64 c.get.result
x_fits c = fits_signed_from_abs w64 c.get.result (rw c.get.ensures (omega (arith, c.over.ensures.size, c.requires _ c.common_denominator-l.ensures.least)))

y_fits : (c : After-get-2) → SFits w64 c.get-2.result
y_fits c = fits_signed_from_abs w64 c.get-2.result (rw c.get-2.ensures (omega (arith, c.over-2.ensures.size, c.requires _ c.common_denominator-l.ensures.least)))

w_is : (c : After-get-2) → to_z w64 c.common_denominator-l.result ≡ pos c.common_denominator-l.result
w_is c = to_z_pos w64 c.common_denominator-l.result (omega (arith, c.requires _ c.common_denominator-l.ensures.least))

pub invariant_of-result : goal.invariant_of-result
invariant_of-result c =
    let x_wide : SFits w128 c.get.result = search rules in
    let x_narrow = x_fits c in
    let y_wide : SFits w128 c.get-2.result = search rules in
    let y_narrow = y_fits c in
    let bounded = c.requires _ c.common_denominator-l.ensures.least in
    let e = c.over.ensures in
    let f = c.over-2.ensures in
    rw (to_z-of_z x_wide, to_z-of_z x_narrow, to_z-of_z y_wide, to_z-of_z y_narrow, w_is c, c.get.ensures, c.get-2.ensures)
    (in_range_over c.args.x c.args.y c.over.result c.over-2.result c.common_denominator-l.result e.in_range f.in_range c.common_denominator-l.ensures.positive bounded c.common_denominator-l.ensures.least e.value f.value e.size f.size)

pub returns-clause-same : goal.returns-clause-same
returns-clause-same c =
    let x_wide : SFits w128 c.get.result = search rules in
    let x_narrow = x_fits c in
    let y_wide : SFits w128 c.get-2.result = search rules in
    let y_narrow = y_fits c in
    let l = c.common_denominator-l.result in
    let positive : pos 0 <ℤ pos c.common_denominator-l.result = omega (arith, ints, c.common_denominator-l.ensures.positive) in
    rw (to_z-of_z x_wide, to_z-of_z x_narrow, to_z-of_z y_wide, to_z-of_z y_narrow, w_is c, c.get.ensures, c.get-2.ensures) (
      coordinate_value c.over.result (pos l) c.args.x.num c.args.x.den c.args.y.den c.over.result (pos l) positive c.over.ensures.value refl,
      rw (mul_comm c.args.x.den c.args.y.den) (coordinate_value c.over-2.result (pos l) c.args.y.num c.args.y.den c.args.x.den c.over-2.result (pos l) positive c.over-2.ensures.value refl),
    )

pub returns-clause-in_range : goal.returns-clause-in_range
returns-clause-in_range c = invariant_of-result c
