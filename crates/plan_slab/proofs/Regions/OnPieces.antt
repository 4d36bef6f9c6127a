-- What the pieces of a boundary are to clear points: none of their points is clear, and the way from a clear point to one that is not meets a piece.
use Rattle.std.proofs.Common.{List, Contains}
use Rattle.std.proofs.lemmas.List.Elements.{All-contains}
use Rattle.plan_spec.specs.Vector.{Vector, IsPoint, Same}
use Rattle.plan_spec.specs.Segment.{On}
use Rattle.plan_spec.specs.Frame.{Frame}
use Rattle.plan_spec.specs.Boundary.{IsClearOf}
use Rattle.plan_spec.specs.Pieces.{Piece}
use Rattle.plan_spec.specs.Slabs.{edge_of}
use Rattle.plan_plane.proofs.Boundary.Between.{boundary_point}
use Rattle.plan_plane.proofs.Boundary.Floor.{not_clear}
use Rattle.plan_plane.proofs.Segment.Between.{Between, between}
use Rattle.plan_plane.proofs.Segment.Part.{on_part_of}
use Rattle.plan_plane.proofs.Segment.Same.{on_same}
use Rattle.plan_slab.proofs.Pieces.{IsPiece, HasPieces}

pub piece_of : {sums : List (List Vector)} {room : Frame} {pieces : List Piece} {p : Piece} → HasPieces sums room pieces → Contains pieces p → IsPiece sums room p
piece_of {sums} {room} {pieces} {p} h has = All-contains (IsPiece sums room) pieces p h.each has

pub touches : {sums : List (List Vector)} {room : Frame} {pieces : List Piece} {p : Piece} → HasPieces sums room pieces → Contains pieces p → (z : Vector) → IsPoint z → On p.part z → ¬ (IsClearOf sums room z)
touches {sums} {room} {p = p} h has z hz on =
    let it = piece_of h has in
    let e = edge_of sums room p in
    not_clear h.floor e it.is_edge z hz (on_part_of e p.part z it.edge_points it.part.points hz it.part.from it.part.to on)

-- ---- on the way from a clear point
-- a point of a piece, of which R is known
pub record Hit (pieces : List Piece) (R : Vector → Type 0) : Type 0 where
  pub piece : Piece
  pub has : Contains pieces piece
  pub point : Vector
  pub is_point : IsPoint point
  pub on : On piece.part point
  pub is : R point

pub hit : {sums : List (List Vector)} {room : Frame} {pieces : List Piece} → HasPieces sums room pieces → (z d : Vector) → IsPoint z → IsPoint d → IsClearOf sums room z → ¬ (IsClearOf sums room d) → Hit pieces (λ v. Between z d v × (¬ (Same v z)))
hit {sums} {room} {pieces} h z d hz hd clear off =
    let b = boundary_point sums room z d h.floor.are_sums h.floor.spots hz hd clear off in
    let (k, p, within, e, on) = h.all b.at b.point b.uncovered b.on_edge in
    let pts = (piece_of h (k, within, e)).part.points in
    record {
      piece = p;
      has = (k, within, e);
      point = b.at;
      is_point = b.point;
      on = on;
      is = (between z d b.at hz hd b.point b.between, λ same. touches h (k, within, e) z hz (on_same p.part.a p.part.b b.at z pts.0 pts.1 b.point hz same on) clear);
    }
