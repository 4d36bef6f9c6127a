-- What the definition of the boundary's pieces says of each of them, and that they have every uncovered point of an edge.
use Rattle.std.proofs.Common.{◌≡◌, ◌⊎◌, inl, inr, ⊎_elim, ℕ, suc, ◌+◌, ◌<◌, ◌*ℤ◌, List, [], ◌∷◌, length, get_or, map, All, Any, Contains, sym, subst, arith}
use Rattle.std.specs.List.{AllZip}
use Rattle.std.proofs.lemmas.List.{get_or_default}
use Rattle.std.proofs.lemmas.List.Elements.{All-nil, All-map, All-append}
use Rattle.plan_exact.proofs.Signs.{le_or_lt}
use Rattle.plan_spec.specs.Vector.{Vector, IsPoint, LeX, LtX, Before}
use Rattle.plan_spec.specs.Segment.{Segment, HasPoints, On}
use Rattle.plan_spec.specs.Frame.{Frame}
use Rattle.plan_spec.specs.Boundary.{IsUncovered, boundary}
use Rattle.plan_spec.specs.Pieces.{IsPartOf, ArePieces, Piece, piece, numbered, IsBoundaryOf}
use Rattle.plan_spec.specs.Slabs.{nothing, edge_of, IsMark}
use Rattle.plan_plane.proofs.Boundary.Floor.{IsFloor, edge_points}
use Rattle.plan_plane.proofs.Lists.{any_cases, any_none, any_left, any_right, any_to_map}
use Rattle.plan_plane.proofs.Segment.Between as between
use Rattle.plan_plane.proofs.Segment.Between.{between_first, between_second}
use Rattle.plan_plane.proofs.Segment.Same.{on_same, Same-swapped}
use Rattle.plan_plane.proofs.Segment.ByX.{leX_trans}
use Rattle.plan_plane.proofs.Segment.Part.{on_part_of}
use Rattle.plan_slab.specs.declared.bar.Bar.{Bar}
use Rattle.plan_slab.specs.Bars.{IsBar}

-- a piece is a part of its edge, and uncovered throughout
pub record IsPiece (sums : List (List Vector)) (room : Frame) (p : Piece) : Type 0 where
  pub is_edge : Contains (boundary sums room) (edge_of sums room p)
  pub edge_points : HasPoints (edge_of sums room p)
  pub part : IsPartOf (edge_of sums room p) p.part
  pub bare : (z : Vector) → IsPoint z → On p.part z → IsUncovered sums room z

pub record HasPieces (sums : List (List Vector)) (room : Frame) (pieces : List Piece) : Type 0 where
  pub floor : IsFloor sums room
  pub each : All (IsPiece sums room) pieces
  pub all : (z : Vector) → IsPoint z → IsUncovered sums room z → Any (λ e. On e z) (boundary sums room) → Any (λ p. On p.part z) pieces

-- the pieces of the edge of number n
of_edge : {sums : List (List Vector)} {room : Frame} → IsFloor sums room → (n : ℕ) (ps : List Segment) → n < length (boundary sums room) → ArePieces sums room (get_or (boundary sums room) n nothing) ps → All (IsPiece sums room) (map (piece n) ps)
of_edge {sums} {room} floor n ps below h = All-map (IsPiece sums room) (piece n) ps each
  where
    e : Segment
    e = get_or (boundary sums room) n nothing

    is_edge : Contains (boundary sums room) e
    is_edge = (n, below, get_or_default (boundary sums room) n e nothing below)

    pts : HasPoints e
    pts = edge_points floor e is_edge

    each : All (λ p. IsPiece sums room (piece n p)) ps
    each k d within =
        let p = get_or ps k d in
        let part = h.along k d within in
        record {
          is_edge = is_edge;
          edge_points = pts;
          part = part;
          bare = λ z hz on. (h.exact z hz (on_part_of e p z pts part.points hz part.from part.to on)).1 (k, p, within, get_or_default ps k p d within, on);
        }

-- es are the edges from number n on
each_from : {sums : List (List Vector)} {room : Frame} → IsFloor sums room → (n : ℕ) (es : List Segment) (parts : List (List Segment)) → ((j m : ℕ) → m ≡ n + j → j < length es → (m < length (boundary sums room)) × (get_or (boundary sums room) m nothing ≡ get_or es j nothing))
    → AllZip (ArePieces sums room) es parts → All (IsPiece sums room) (numbered n parts)
each_from {sums} {room} floor n [] [] at h = All-nil (IsPiece sums room)
each_from floor n [] (ps ∷ parts) at h = absurd h
each_from floor n (e ∷ es) [] at h = absurd h
each_from {sums} {room} floor n (e ∷ es) (ps ∷ parts) at h =
    let here = at 0 n (omega arith) (omega arith) in
    All-append (IsPiece sums room) (map (piece n) ps) (numbered (suc n) parts) (of_edge floor n ps here.0 (subst (λ e. ArePieces sums room e ps) (sym here.1) h.0))
    (each_from floor (suc n) es parts (λ j m e within. at (suc j) m (omega (arith, e)) (omega (arith, within))) h.1)

all_from : {sums : List (List Vector)} {room : Frame} (n : ℕ) (es : List Segment) (parts : List (List Segment)) → AllZip (ArePieces sums room) es parts → (z : Vector) → IsPoint z → IsUncovered sums room z → Any (λ e. On e z) es → Any (λ p. On p.part z) (numbered n parts)
all_from n [] parts h z hz bare some = absurd (any_none (λ e. On e z) some)
all_from n (e ∷ es) [] h z hz bare some = absurd h
all_from n (e ∷ es) (ps ∷ parts) h z hz bare some = ⊎_elim
    (λ on. any_left (λ p. On p.part z) (map (piece n) ps) (numbered (suc n) parts) (any_to_map (λ p. On p.part z) (piece n) ps ((h.0.exact z hz on).0 bare)))
    (λ rest. any_right (λ p. On p.part z) (map (piece n) ps) (numbered (suc n) parts) (all_from (suc n) es parts h.1 z hz bare rest)) (any_cases (λ e. On e z) e es some)

pub has_pieces : {sums : List (List Vector)} {room : Frame} {pieces : List Piece} → IsFloor sums room → IsBoundaryOf sums room pieces → HasPieces sums room pieces
has_pieces {sums} {room} floor h = record {
  floor = floor;
  each = subst (All (IsPiece sums room)) (sym h.in_order) (each_from floor 0 (boundary sums room) h.parts at h.each);
  all = λ z hz bare some. subst (Any (λ p. On p.part z)) (sym h.in_order) (all_from 0 (boundary sums room) h.parts h.each z hz bare some);
}
  where
    at : (j m : ℕ) → m ≡ 0 + j → j < length (boundary sums room) → (m < length (boundary sums room)) × (get_or (boundary sums room) m nothing ≡ get_or (boundary sums room) j nothing)
    at j m e within = let f : j ≡ m = omega (arith, e) in subst (λ m. (m < length (boundary sums room)) × (get_or (boundary sums room) m nothing ≡ get_or (boundary sums room) j nothing)) f (within, λ i. get_or (boundary sums room) j nothing)

-- a piece is from its lesser end on
pub in_range : (p : Segment) (z : Vector) → HasPoints p → IsPoint z → ¬ (Before p.b p.a) → On p z → LeX p.a z × LeX z p.b
in_range p z hp hz onward h = by (le_or_lt (p.a.x *ℤ p.b.w) (p.b.x *ℤ p.a.w)) h.within_x
  where
    by : LeX p.a p.b ⊎ LtX p.b p.a → (LeX p.a z × LeX z p.b) ⊎ (LeX p.b z × LeX z p.a) → LeX p.a z × LeX z p.b
    by (inr lt) w = absurd (onward (inl lt))
    by (inl le) (inl w) = w
    by (inl le) (inr w) = (leX_trans p.a p.b z hp.0 hp.1 hz le w.0, leX_trans z p.a p.b hz hp.0 hp.1 w.1 le)

-- a mark of a piece is on it
pub mark_on : (p : Piece) (m : Vector) → HasPoints p.part → IsPoint m → IsMark m p → On p.part m
mark_on p m hp hm (inl same) = on_same p.part.a p.part.b p.part.a m hp.0 hp.1 hp.0 hm (Same-swapped m p.part.a same) (between.on (between_first p.part.a p.part.b hp.0))
mark_on p m hp hm (inr (inl same)) = on_same p.part.a p.part.b p.part.b m hp.0 hp.1 hp.1 hm (Same-swapped m p.part.b same) (between.on (between_second p.part.a p.part.b hp.1))
mark_on p m hp hm (inr (inr h)) = h.1

-- the piece of a bar is one of them
pub bar_piece : {sums : List (List Vector)} {room : Frame} {pieces : List Piece} → HasPieces sums room pieces → (b : Bar) → IsBar sums room pieces b → IsPiece sums room b.piece
bar_piece {sums} {room} known b h = subst (IsPiece sums room) (sym h.is) (known.each b.number (piece 0 nothing) h.within)
