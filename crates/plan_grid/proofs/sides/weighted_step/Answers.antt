-- The numbers are as they were handed on; their product is at most 2^82.
use Rattle.std.proofs.Common.{refl, w32, w64, SFits, to_z-of_z, arith}
use Rattle.plan_exact.proofs.Sizes.{product_at_most}
use Rattle.plan_grid.proofs.sides.weighted_step.Goals as goal

pub times-requires : goal.times-requires
times-requires c = omega (arith, product_at_most _ _ _ _ c.from-2.ensures.1 c.requires)

pub minus-requires : goal.minus-requires
minus-requires c = omega (arith, product_at_most _ _ _ _ c.from-2.ensures.1 c.requires, c.from.ensures.1, c.times.ensures.size)

pub returns-clause-value : goal.returns-clause-value
returns-clause-value c =
    let a : SFits w32 c.args.a = c.ranges.a in
    let z : SFits w64 c.args.z = c.ranges.z in
    rw (c.minus.ensures.value, c.times.ensures.value, simp to_z-of_z at c.from-2.ensures.0, simp to_z-of_z at c.from.ensures.0) refl

pub returns-clause-size : goal.returns-clause-size
returns-clause-size c =
    let a : SFits w32 c.args.a = c.ranges.a in
    let z : SFits w64 c.args.z = c.ranges.z in
    rw (← simp to_z-of_z at c.from-2.ensures.0, ← simp to_z-of_z at c.from.ensures.0) (omega (arith, c.minus.ensures.size, c.times.ensures.size))

pub returns-clause-bound : goal.returns-clause-bound
returns-clause-bound c = omega (arith, product_at_most _ _ _ _ c.from-2.ensures.1 c.requires, c.from.ensures.1, c.minus.ensures.size, c.times.ensures.size)
