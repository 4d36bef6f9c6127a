-- The tests that were passed are the conditions of `height`.
use Rattle.std.proofs.Common.{rules, ◌≡◌, ℕ, ℤ, pos, ◌*ℤ◌, ◌≤ℤ◌, ◌<◌, ◌≤◌, ◌^◌, false, unsigned_abs, w32, SFits, to_z-of_z, arith}
use Rattle.std.specs.Int.{w128}
use Rattle.std.specs.Int.RustNames.{int_lt, int_le}
use Rattle.std.proofs.lemmas.Int.{ints, fits_signed_mul}
use Rattle.plan_exact.proofs.Tests.{le_from_false}
use Rattle.plan_figures.proofs.grid.height_between.Goals as goal

not_reached : (k : ℕ) (d : ℤ) → int_le (pos k) d ≡ false → pos 1 ≤ℤ d → unsigned_abs d < k
not_reached k d h p = grind (arith, ints)

product_fits : (a d : ℤ) → unsigned_abs a ≤ 2 ^ 31 → unsigned_abs d ≤ 2 ^ 52 → SFits w128 (a *ℤ d)
product_fits a d h k = fits_signed_mul w128 a d (2 ^ 31) (2 ^ 52) h k (omega arith)

pub height-requires-clause-from : goal.height-requires-clause-from
height-requires-clause-from c =
    let a_narrow : SFits w32 c.args.a.x = search rules in
    let a = simp to_z-of_z at c.from.ensures in
    let a_wide : SFits w128 c.from.result = search rules in
    let d : SFits w128 c.den-den.result = search rules in
    let n : SFits w128 c.num-num.result = search rules in
    let a_small : unsigned_abs c.from.result ≤ 2 ^ 31 = rw a (omega (arith, ints, a_narrow.sfits)) in
    let d_small : unsigned_abs c.den-den.result ≤ 2 ^ 52 = rw c.den-den.ensures.value c.den-den.ensures.in_range.den_bounded in
    let p = product_fits c.from.result c.den-den.result a_small d_small in
    rw (← a, ← c.den-den.ensures.value, ← c.num-num.ensures.value) (le_from_false _ _ (simp to_z-of_z at c.if-left-num.false))

pub height-requires-clause-to : goal.height-requires-clause-to
height-requires-clause-to c =
    let b_narrow : SFits w32 c.args.b.x = search rules in
    let b = simp to_z-of_z at c.from-2.ensures in
    let b_wide : SFits w128 c.from-2.result = search rules in
    let d : SFits w128 c.den-den.result = search rules in
    let n : SFits w128 c.num-num.result = search rules in
    let b_small : unsigned_abs c.from-2.result ≤ 2 ^ 31 = rw b (omega (arith, ints, b_narrow.sfits)) in
    let d_small : unsigned_abs c.den-den.result ≤ 2 ^ 52 = rw c.den-den.ensures.value c.den-den.ensures.in_range.den_bounded in
    let p = product_fits c.from-2.result c.den-den.result b_small d_small in
    rw (← b, ← c.den-den.ensures.value, ← c.num-num.ensures.value) (le_from_false _ _ (simp to_z-of_z at c.if-num-right.false))

pub height-requires-clause-den_bounded : goal.height-requires-clause-den_bounded
height-requires-clause-den_bounded c =
    let d : SFits w128 c.den-den.result = search rules in
    rw (← c.den-den.ensures.value) (not_reached (2 ^ 26) c.den-den.result (simp to_z-of_z at c.if-den.false) (rw c.den-den.ensures.value c.den-den.ensures.in_range.positive))

pub overflow_mul-left : goal.overflow_mul-left
overflow_mul-left c =
    let narrow : SFits w32 c.args.a.x = search rules in
    let value = simp to_z-of_z at c.from.ensures in
    let wide : SFits w128 c.from.result = search rules in
    let d : SFits w128 c.den-den.result = search rules in
    let small : unsigned_abs c.from.result ≤ 2 ^ 31 = rw value (omega (arith, ints, narrow.sfits)) in
    let d_small : unsigned_abs c.den-den.result ≤ 2 ^ 52 = rw c.den-den.ensures.value c.den-den.ensures.in_range.den_bounded in
    rw (to_z-of_z wide, to_z-of_z d) (product_fits c.from.result c.den-den.result small d_small)

pub overflow_mul-right : goal.overflow_mul-right
overflow_mul-right c =
    let narrow : SFits w32 c.args.b.x = search rules in
    let value = simp to_z-of_z at c.from-2.ensures in
    let wide : SFits w128 c.from-2.result = search rules in
    let d : SFits w128 c.den-den.result = search rules in
    let small : unsigned_abs c.from-2.result ≤ 2 ^ 31 = rw value (omega (arith, ints, narrow.sfits)) in
    let d_small : unsigned_abs c.den-den.result ≤ 2 ^ 52 = rw c.den-den.ensures.value c.den-den.ensures.in_range.den_bounded in
    rw (to_z-of_z wide, to_z-of_z d) (product_fits c.from-2.result c.den-den.result small d_small)
