-- The x of the ends of the pieces so far, which are in range.
use Rattle.std.proofs.Common.{ℕ, ◌<◌, get_or}
use Rattle.plan_spec.specs.Pieces.{Piece}
use Rattle.plan_convex.specs.Piece.{IsPieceInRange}
use Rattle.plan_slab.proofs.XValues.{LinesSoFar}
use Rattle.plan_slab.proofs.lines.lines_of.Given as goal

abbrev pub invariant-loop-piece : goal.invariant-loop-piece
invariant-loop-piece l = record {
  lines : LinesSoFar l.pieces l.piece-index l.lines.items;
  in_range : (k : ℕ) (d : Piece) → k < l.piece-index → IsPieceInRange (get_or l.pieces k d);
}
