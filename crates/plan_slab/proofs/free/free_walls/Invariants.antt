-- The free walls of the first ones.
use Rattle.std.proofs.Common.{map}
use Rattle.std.specs.List.{range_with_len}
use Rattle.plan_spec.specs.Regions.{Kept, wall}
use Rattle.plan_grid.specs.Frame.{frame_seen}
use Rattle.plan_convex.specs.Piece.{sums_seen}
use Rattle.plan_slab.specs.FreeLots.{IsFreeWall}
use Rattle.plan_slab.specs.Seen.{marks_seen, lot_seen}
use Rattle.plan_slab.proofs.free.free_walls.Given as goal

abbrev pub invariant-loop-i : goal.invariant-loop-i
invariant-loop-i l = Kept (IsFreeWall (sums_seen l.sums) (frame_seen l.room) (marks_seen l.x l.marks)) (map (wall l.line) (range_with_len 0 l.i)) (map lot_seen l.found.items)
