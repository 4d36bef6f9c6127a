-- The bars so far were added.
use Rattle.plan_slab.specs.Sweeps.{AreEntered}
use Rattle.plan_slab.proofs.sweep.enter.Given as goal

abbrev pub invariant-loop-i : goal.invariant-loop-i
invariant-loop-i l = AreEntered l.bars l.next l.i l.line l.fn.active.items l.active.items
