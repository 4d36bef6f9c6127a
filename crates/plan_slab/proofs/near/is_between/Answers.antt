-- The products are below 2 ^ 112.
use Rattle.std.proofs.Common.{arith}
use Rattle.plan_exact.proofs.Sizes.{product_at_most}
use Rattle.plan_slab.proofs.near.is_between.Goals as goal

pub times-requires : goal.times-requires
times-requires c = omega (arith, product_at_most _ _ _ _ c.requires.low c.requires.weight)

pub times-requires-then-is_at_most : goal.times-requires-then-is_at_most
times-requires-then-is_at_most c = omega (arith, product_at_most _ _ _ _ c.requires.high c.requires.weight)
