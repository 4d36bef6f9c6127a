-- The segments so far are proper and tight.
use Rattle.std.proofs.Common.{ℕ, ◌<◌, map, slice_get, IfSome}
use Rattle.plan_grid.specs.Frame.{frame_seen}
use Rattle.plan_convex.specs.Piece.{sums_seen}
use Rattle.plan_cross.specs.Segment.{segment_seen}
use Rattle.plan_check.specs.Touching.{IsProperAndTight}
use Rattle.plan_check.proofs.chain.first_unsound.Given as goal

abbrev pub invariant-loop-k : goal.invariant-loop-k
invariant-loop-k l = (j : ℕ) → j < l.k → IfSome (slice_get (map segment_seen l.segments) j) (IsProperAndTight (sums_seen l.sums) (frame_seen l.room))
