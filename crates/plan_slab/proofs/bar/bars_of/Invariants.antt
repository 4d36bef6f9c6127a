-- The bars of the pieces so far.
use Rattle.plan_grid.specs.Frame.{frame_seen}
use Rattle.plan_convex.specs.Piece.{sums_seen}
use Rattle.plan_slab.proofs.BarLists.{FirstBars}
use Rattle.plan_slab.proofs.bar.bars_of.Given as goal

abbrev pub invariant-loop-i : goal.invariant-loop-i
invariant-loop-i l = FirstBars (sums_seen l.sums) (frame_seen l.room) l.pieces l.i l.bars.items
