-- Each corner of a triangle is within its bound.
use Rattle.std.proofs.Common.{arith}
use Rattle.plan_grid.proofs.Spots.{corner, origin, within_more}
use Rattle.plan_convex.proofs.minkowski.reflected.Goals as goal

pub opposite-requires : goal.opposite-requires
opposite-requires c = let t = c.requires.triangle in within_more 1023 _ (corner c.args.triangle 0) (omega arith) (t.bounded 0 origin (omega (arith, t.three)))

pub opposite-requires-2 : goal.opposite-requires-2
opposite-requires-2 c = let t = c.requires.triangle in within_more 1023 _ (corner c.args.triangle 1) (omega arith) (t.bounded 1 origin (omega (arith, t.three)))

pub opposite-requires-3 : goal.opposite-requires-3
opposite-requires-3 c = let t = c.requires.triangle in within_more 1023 _ (corner c.args.triangle 2) (omega arith) (t.bounded 2 origin (omega (arith, t.three)))
