-- Products of two numbers of 64 bits fit, and the numbers are as they were handed on.
use Rattle.std.proofs.Common.{w64, SFits, to_z-of_z, arith}
use Rattle.plan_exact.proofs.Sizes.{product_at_most}
use Rattle.plan_grid.proofs.order.fraction_order.Goals as goal

pub times-requires : goal.times-requires
times-requires c = omega (arith, product_at_most _ _ _ _ c.from.ensures.1 c.from-2.ensures.1)

pub times-requires-2 : goal.times-requires-2
times-requires-2 c = omega (arith, product_at_most _ _ _ _ c.from-3.ensures.1 c.from-4.ensures.1)

pub returns : goal.returns
returns c =
    let a : SFits w64 c.args.a = c.ranges.a in
    let p : SFits w64 c.args.p = c.ranges.p in
    let b : SFits w64 c.args.b = c.ranges.b in
    let q : SFits w64 c.args.q = c.ranges.q in
    rw (c.times.ensures.value, c.times-2.ensures.value, simp to_z-of_z at c.from.ensures.0, simp to_z-of_z at c.from-2.ensures.0, simp to_z-of_z at c.from-3.ensures.0, simp to_z-of_z at c.from-4.ensures.0) at c.order.ensures
