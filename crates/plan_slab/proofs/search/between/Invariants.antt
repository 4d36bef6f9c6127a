-- The lots so far have keys below the limit.
use Rattle.plan_slab.proofs.LotNumbers.{AreKeysBelow}
use Rattle.plan_slab.proofs.search.between.Given as goal

abbrev pub invariant-loop-end : goal.invariant-loop-end
invariant-loop-end l = AreKeysBelow l.lots l.limit l.start l.end
