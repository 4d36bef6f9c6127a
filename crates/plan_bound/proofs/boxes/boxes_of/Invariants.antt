-- The boxes of the sums so far.
use Rattle.std.proofs.Common.{take}
use Rattle.plan_bound.specs.Cover.{AreBoxes}
use Rattle.plan_bound.proofs.boxes.boxes_of.Given as goal

abbrev pub invariant-loop-sum : goal.invariant-loop-sum
invariant-loop-sum l = AreBoxes (take l.sum-index l.sums) l.boxes.items
