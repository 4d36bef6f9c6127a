-- No segment so far has an end in the list.
use Rattle.std.proofs.Common.{ℕ, ◌<◌, map, slice_get, IfSome}
use Rattle.plan_cross.specs.Segment.{segment_seen}
use Rattle.plan_cross.specs.Ends.{EndsIn}
use Rattle.plan_cross.proofs.chain.first_ending_in.Given as goal

abbrev pub invariant-loop-k : goal.invariant-loop-k
invariant-loop-k l = (j : ℕ) → j < l.k → IfSome (slice_get (map segment_seen l.segments) j) (λ s. ¬ (EndsIn l.points s))
