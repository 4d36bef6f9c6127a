-- The pieces that alike sums leave of a boundary are alike.
use Rattle.std.proofs.Common.{ℕ, suc, List, [], ◌∷◌, map, All, Contains, refl, sym, subst}
use Rattle.std.proofs.lemmas.List.Elements.{All-head, All-tail, All-contains_itself, All-weaker}
use Rattle.std.specs.List.{AllZip}
use Rattle.plan_spec.specs.Vector.{Vector, IsPoint}
use Rattle.plan_spec.specs.Segment.{Segment, HasPoints, On}
use Rattle.plan_spec.specs.Frame.{Frame}
use Rattle.plan_spec.specs.Boundary.{boundary}
use Rattle.plan_spec.specs.Pieces.{IsPartOf, ArePieces, Piece, piece, numbered, IsBoundaryOf}
use Rattle.plan_plane.proofs.Boundary.Blocks.{HasSpots}
use Rattle.plan_plane.proofs.Boundary.Floor.{IsFloor, edge_points}
use Rattle.plan_plane.proofs.Segment.Between.{between_first, between_second, on}
use Rattle.plan_plane.proofs.Segment.Part.{on_part_of}
use Rattle.plan_plane.proofs.Segment.Same.{on_same, Same-swapped}
use Rattle.plan_ring.specs.Alike.{AlikeSegment, AlikePiece, AlikePieces}
use Rattle.plan_ring.proofs.Alike.Boundary.{AreAlike, boundary_alike, segment_swapped, uncovered_alike}
use Rattle.plan_ring.proofs.Alike.Parts.{parts_alike}
use Rattle.plan_ring.proofs.Alike.SlabsLists.{zip_append}
use Rattle.plan_ring.proofs.Alike.Zipped.{zip_mapped}

-- ---- one edge
pub on_alike : (s t : Segment) (z : Vector) → HasPoints s → HasPoints t → AlikeSegment s t → IsPoint z → On s z → On t z
on_alike s t z hs ht h hz o =
    on_part_of t s z ht hs hz
    (on_same t.a t.b t.a s.a ht.0 ht.1 ht.0 hs.0 (Same-swapped s.a t.a h.0) (on (between_first t.a t.b ht.0)))
    (on_same t.a t.b t.b s.b ht.0 ht.1 ht.1 hs.1 (Same-swapped s.b t.b h.1) (on (between_second t.a t.b ht.1))) o

part_alike : (s t p : Segment) → HasPoints s → HasPoints t → AlikeSegment s t → IsPartOf s p → IsPartOf t p
part_alike s t p hs ht h k = record { points = k.points; from = on_alike s t p.a hs ht h k.points.0 k.from; to = on_alike s t p.b hs ht h k.points.1 k.to; onward = k.onward }

module _ {sums others : List (List Vector)} (h : AreAlike sums others) (room : Frame) where
  edge_pieces_alike : (s t : Segment) (ps qs : List Segment) → HasPoints s → HasPoints t → AlikeSegment s t → ArePieces sums room s ps → ArePieces others room t qs → AllZip AlikeSegment ps qs
  edge_pieces_alike s t ps qs hs ht e k l =
      parts_alike s hs ps qs (record { along = k.along; apart = k.apart }) (record { along = All-weaker (IsPartOf t) (IsPartOf s) (λ p m. part_alike t s p ht hs (segment_swapped s t e) m) qs l.along; apart = l.apart })
      (λ z hz o held. (l.exact z hz (on_alike s t z hs ht e hz o)).0 ((uncovered_alike h room z).0 ((k.exact z hz o).1 held)))
      (λ z hz o held. (k.exact z hz o).0 ((uncovered_alike h room z).1 ((l.exact z hz (on_alike s t z hs ht e hz o)).1 held)))

  -- ---- all edges
  all_pieces_alike : (es fs : List Segment) (parts rest : List (List Segment)) → All HasPoints es → All HasPoints fs → AllZip AlikeSegment es fs → AllZip (ArePieces sums room) es parts → AllZip (ArePieces others room) fs rest → AllZip (AllZip AlikeSegment) parts rest
  all_pieces_alike [] [] [] [] he hf a k l = tt
  all_pieces_alike [] [] [] (qs ∷ rest) he hf a k l = absurd l
  all_pieces_alike [] [] (ps ∷ parts) rest he hf a k l = absurd k
  all_pieces_alike [] (f ∷ fs) parts rest he hf a k l = absurd a
  all_pieces_alike (e ∷ es) [] parts rest he hf a k l = absurd a
  all_pieces_alike (e ∷ es) (f ∷ fs) [] rest he hf a k l = absurd k
  all_pieces_alike (e ∷ es) (f ∷ fs) (ps ∷ parts) [] he hf a k l = absurd l
  all_pieces_alike (e ∷ es) (f ∷ fs) (ps ∷ parts) (qs ∷ rest) he hf a k l = (
    edge_pieces_alike e f ps qs (All-head HasPoints e es he) (All-head HasPoints f fs hf) a.0 k.0 l.0,
    all_pieces_alike es fs parts rest (All-tail HasPoints e es he) (All-tail HasPoints f fs hf) a.1 k.1 l.1,
  )

-- ---- their numbers
numbered_alike : (k : ℕ) (parts rest : List (List Segment)) → AllZip (AllZip AlikeSegment) parts rest → AlikePieces (numbered k parts) (numbered k rest)
numbered_alike k [] [] h = tt
numbered_alike k [] (qs ∷ rest) h = absurd h
numbered_alike k (ps ∷ parts) [] h = absurd h
numbered_alike k (ps ∷ parts) (qs ∷ rest) h =
    zip_append AlikePiece (map (piece k) ps) (map (piece k) qs) (numbered (suc k) parts) (numbered (suc k) rest) (zip_mapped AlikeSegment AlikePiece (piece k) (piece k) (λ p q e. (refl, e)) ps qs h.0) (numbered_alike (suc k) parts rest h.1)

-- ---- all pieces
points_of_edges : {sums : List (List Vector)} {room : Frame} → IsFloor sums room → All HasPoints (boundary sums room)
points_of_edges {sums} {room} floor = All-weaker (Contains (boundary sums room)) HasPoints (λ e is. edge_points floor e is) (boundary sums room) (All-contains_itself (boundary sums room))

pub pieces_alike : (sums others : List (List Vector)) (room : Frame) (ps qs : List Piece) → HasSpots room → AreAlike sums others → IsBoundaryOf sums room ps → IsBoundaryOf others room qs → AlikePieces ps qs
pieces_alike sums others room ps qs spots h k l =
    subst (λ ps. AlikePieces ps qs) (sym k.in_order) (subst (AlikePieces (numbered 0 k.parts)) (sym l.in_order)
    (numbered_alike 0 k.parts l.parts (all_pieces_alike h room (boundary sums room) (boundary others room) k.parts l.parts
    (points_of_edges (record { are_sums = h.one; spots = spots })) (points_of_edges (record { are_sums = h.other; spots = spots })) (boundary_alike sums others room h.alike) k.each l.each)))
