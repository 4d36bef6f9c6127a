-- The free cells of the first ones.
use Rattle.std.proofs.Common.{map}
use Rattle.std.specs.List.{range_with_len}
use Rattle.plan_spec.specs.Regions.{Kept, cell}
use Rattle.plan_grid.specs.Frame.{frame_seen}
use Rattle.plan_convex.specs.Piece.{sums_seen}
use Rattle.plan_slab.specs.FreeLots.{IsFreeCell}
use Rattle.plan_slab.specs.Seen.{strand_seen, lot_seen}
use Rattle.plan_slab.proofs.free.free_cells.Given as goal

abbrev pub invariant-loop-i : goal.invariant-loop-i
invariant-loop-i l = Kept (IsFreeCell (sums_seen l.sums) (frame_seen l.room) l.x (map strand_seen l.spans)) (map (cell l.slab) (range_with_len 0 l.i)) (map lot_seen l.found.items)
