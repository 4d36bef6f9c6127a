-- The way is at most the sizes of the numerator and of the product together.
use Rattle.std.proofs.Common.{◌≤◌, ◌*◌, ◌^◌, unsigned_abs, w32, SFits, to_z-of_z, arith}
use Rattle.plan_exact.proofs.Sizes.{product_at_most}
use Rattle.plan_grid.proofs.segment.way_to.Goals as goal
use Rattle.plan_grid.proofs.segment.way_to.Goals.{After-whole_den}

product : (c : After-whole_den) → unsigned_abs c.from.result * unsigned_abs c.whole_den.result ≤ 2046 * 2 ^ 26
product c =
    let fits : SFits w32 c.args.a = c.ranges.a in
    product_at_most (unsigned_abs c.from.result) (unsigned_abs c.whole_den.result) 2046 (2 ^ 26) (rw (simp to_z-of_z at c.from.ensures.0) c.requires.bounded) (rw c.whole_den.ensures.value (omega (arith, c.requires.den_bounded)))

pub times-requires : goal.times-requires
times-requires c = omega (arith, product c)

pub minus-requires : goal.minus-requires
minus-requires c =
    let n = c.whole_num.ensures in
    rw n.value (omega (arith, product (goal.at.minus-requires c).After-whole_den, c.times.ensures.size, n.in_range.num_bounded, c.requires.den_bounded))

pub returns-clause-size : goal.returns-clause-size
returns-clause-size c =
    let n = c.whole_num.ensures in
    omega (arith, product (goal.at.returns-clause-size c).After-whole_den, c.times.ensures.size, rw n.value at c.minus.ensures.size, n.in_range.num_bounded, c.requires.den_bounded)
