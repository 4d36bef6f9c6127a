-- The boxes of the sums so far.
use Rattle.std.proofs.Common.{take}
use Rattle.plan_slab.specs.Near.{AreBoxes}
use Rattle.plan_slab.proofs.near.boxes_of.Given as goal

abbrev pub invariant-loop-sum : goal.invariant-loop-sum
invariant-loop-sum l = AreBoxes (take l.sum-index l.sums) l.boxes.items
