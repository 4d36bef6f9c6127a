-- The bars so far with their heights.
use Rattle.plan_slab.proofs.FirstRungs.{RungsSoFar}
use Rattle.plan_slab.proofs.rungs.rungs_at.Given as goal

abbrev pub invariant-loop-bar : goal.invariant-loop-bar
invariant-loop-bar l = RungsSoFar l.z l.bars l.bar-index l.rungs.items
