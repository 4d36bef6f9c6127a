-- What was found, with what is left without pairs, is the list without pairs.
use Rattle.std.proofs.Common.{◌≡◌, ◌++◌, length}
use Rattle.plan_cross.specs.Ends.{unpaired}
use Rattle.plan_cross.proofs.ends.unpaired.Given as goal

abbrev pub invariant-loop-left : goal.invariant-loop-left
invariant-loop-left l = l.found.items ++ unpaired l.left ≡ unpaired l.ends

abbrev pub decreases-loop-left : goal.decreases-loop-left
decreases-loop-left l = length l.left
