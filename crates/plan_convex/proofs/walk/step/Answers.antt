-- A walk that is to go on has an edge left, whichever way the edges bend.
use Rattle.std.proofs.Common.{arith}
use Rattle.plan_exact.proofs.Laws.{linear}
use Rattle.plan_convex.proofs.walk.step.Goals as goal

pub onward-requires : goal.onward-requires
onward-requires c = let turn = c.in-Greater.ensures in c.requires.a_left (omega (arith, linear))

pub onward-requires-in-Less : goal.onward-requires-in-Less
onward-requires-in-Less c = let turn = c.in-Less.ensures in c.requires.b_left (omega (arith, linear))

pub onward-requires-in-Equal : goal.onward-requires-in-Equal
onward-requires-in-Equal c = let turn = c.in-Equal.ensures in c.requires.a_left (omega (arith, linear))

pub onward-requires-in-Equal-2 : goal.onward-requires-in-Equal-2
onward-requires-in-Equal-2 c = let turn = c.in-Equal.ensures in c.requires.b_left (omega (arith, linear))
