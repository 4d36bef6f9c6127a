-- The number is that of the edge among those that are left.
use Rattle.std.proofs.Common.{◌≡◌, ◌<◌, length, get_or}
use Rattle.plan_spec.specs.Segment.{Segment}
use Rattle.plan_grid.specs.Frame.{frame_seen}
use Rattle.plan_convex.proofs.EdgeNumbers.{left_from}
use Rattle.plan_convex.proofs.numbering.edge_of.Given as goal

abbrev pub invariant-loop-sum : goal.invariant-loop-sum
invariant-loop-sum l =
    (l.left < length (left_from l.sums l.sum-index (frame_seen l.room)))
    × ((e : Segment) → get_or (left_from l.sums l.sum-index (frame_seen l.room)) l.left e ≡ get_or (left_from l.sums 0 (frame_seen l.room)) l.edge e)
