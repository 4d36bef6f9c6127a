-- The least common multiple is at most the product of two small denominators.
use Rattle.std.proofs.Common.{◌<◌, ◌*◌, ◌≤◌, ◌^◌, unsigned_abs, arith}
use Rattle.std.proofs.lemmas.Int.{ints}
use Rattle.std.proofs.Math.Nat.{dvd-mul_left, dvd-mul_right}
use Rattle.plan_exact.proofs.Sizes.{product_at_most}
use Rattle.plan_grid.proofs.Multiples.{lcm_at_most}
use Rattle.plan_figures.proofs.grid.half.Goals as goal

pub middle-requires : goal.middle-requires
middle-requires c =
    let a_positive : 0 < unsigned_abs c.args.a.den = omega (arith, ints, c.den.ensures.in_range.positive) in
    let b_positive : 0 < unsigned_abs c.args.b.den = omega (arith, ints, c.den-2.ensures.in_range.positive) in
    let a_small : unsigned_abs c.args.a.den ≤ 2 ^ 25 = omega arith in
    let b_small : unsigned_abs c.args.b.den ≤ 2 ^ 25 = omega arith in
    let product : 0 < unsigned_abs c.args.a.den * unsigned_abs c.args.b.den = omega (arith, product_at_most 1 1 _ _ a_positive b_positive) in
    λ l h. omega (arith, lcm_at_most _ _ l _ h product (dvd-mul_right _ _) (dvd-mul_left _ _), product_at_most _ _ _ _ a_small b_small)
