-- The rows of the slabs and lines so far, and what is held before the next line.
use Rattle.std.proofs.Common.{◌<◌, ◌≤◌, length, map, get_or}
use Rattle.plan_grid.specs.Fraction.{Fraction}
use Rattle.plan_grid.specs.Frame.{frame_seen}
use Rattle.plan_convex.specs.Piece.{sums_seen}
use Rattle.plan_slab.proofs.SweptRows.{AreSwept, IsHeld}
use Rattle.plan_slab.proofs.sweep.sweep.Given as goal

abbrev pub invariant-loop-k : goal.invariant-loop-k
invariant-loop-k l = AreSwept (sums_seen l.sums) (frame_seen l.fn.room) l.pieces l.lines (map (λ v. v.items) l.rows.spans.items) (map (λ v. v.items) l.rows.marks.items) l.k l.k l.rows.size × (l.next ≤ length l.bars.items) × ((d : Fraction) → l.k < length l.lines → IsHeld l.bars.items l.next (get_or l.lines l.k d) l.active.items)
