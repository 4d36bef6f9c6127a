-- Boxes of the sums so far.
use Rattle.plan_check.proofs.Boxed.{AreBoxesUpTo}
use Rattle.plan_check.proofs.boxes.boxes_of.Given as goal

abbrev pub invariant-loop-sum : goal.invariant-loop-sum
invariant-loop-sum l = AreBoxesUpTo l.sums l.sum-index l.boxes.items
