-- The numbers so far are those of the first boxes.
use Rattle.plan_slab.proofs.Boxes.{AreNearSoFar}
use Rattle.plan_slab.proofs.near.near.Given as goal

abbrev pub invariant-loop-i : goal.invariant-loop-i
invariant-loop-i l = AreNearSoFar l.boxes l.z l.numbers.items l.i
