-- Two lists of sums of one scene with their pieces, alike by position: what reaches, lies and marks the same.
use Rattle.std.proofs.Common.{◌≡◌, ◌⊎◌, inl, inr, ◌↔◌, ℕ, ◌*ℤ◌, Bool, true, false, cond, int_lt, List, length, refl, sym, subst, ◌∙◌, arith}
use Rattle.std.specs.List.{AllZip}
use Rattle.std.proofs.lemmas.List.Elements.{length_all_zip}
use Rattle.plan_exact.specs.Vectors.{cross}
use Rattle.plan_exact.proofs.Laws.{linear}
use Rattle.plan_exact.proofs.Signs.{le_or_lt}
use Rattle.plan_exact.proofs.Tests.{lt_true, lt_false}
use Rattle.plan_spec.specs.Vector.{Vector, IsPoint, SameX, LeX, LtX}
use Rattle.plan_spec.specs.Segment.{Segment, segment, HasPoints}
use Rattle.plan_spec.specs.Frame.{Frame}
use Rattle.plan_spec.specs.Boundary.{IsClearOf, boundary}
use Rattle.plan_spec.specs.Pieces.{Piece, piece}
use Rattle.plan_spec.specs.Slabs.{nothing, piece_at, edge_of, Reaches, LiesOn, rightward, IsMark}
use Rattle.plan_plane.proofs.Rising.ByCoordinate.{order_x, before_alike, after_alike}
use Rattle.plan_plane.proofs.Segment.Same.{Same-trans}
use Rattle.plan_plane.proofs.Segment.SameSign.{zero_same}
use Rattle.plan_slab.proofs.Pieces.{HasPieces}
use Rattle.plan_ring.specs.Alike.{AlikeSegment, AlikePiece, AlikePieces}
use Rattle.plan_ring.proofs.Alike.Boundary.{segment_swapped}
use Rattle.plan_ring.proofs.Alike.Pieces.{on_alike}
use Rattle.plan_ring.proofs.Alike.SlabsLists.{zip_at}

pub record AlikeGround (vs ws : List (List Vector)) (room : Frame) (ps qs : List Piece) : Type 0 where
  pub first : HasPieces vs room ps
  pub second : HasPieces ws room qs
  pub edges : AllZip AlikeSegment (boundary vs room) (boundary ws room)
  pub pieces : AlikePieces ps qs
  pub clear : (z : Vector) → IsPoint z → IsClearOf vs room z ↔ IsClearOf ws room z

-- ---- by x
pub less_alike : (a b u v : Vector) → IsPoint a → IsPoint b → IsPoint u → IsPoint v → SameX a u → SameX b v → LtX a b → LtX u v
less_alike a b u v ha hb hu hv e f h = order_x.less_equal u b v hu hb hv (order_x.equal_less u a b hu ha hb (sym e) h) f

less_test : (a b u v : Vector) → IsPoint a → IsPoint b → IsPoint u → IsPoint v → SameX a u → SameX b v → int_lt (a.x *ℤ b.w) (b.x *ℤ a.w) ≡ int_lt (u.x *ℤ v.w) (v.x *ℤ u.w)
less_test a b u v ha hb hu hv e f = by (le_or_lt (b.x *ℤ a.w) (a.x *ℤ b.w)) (le_or_lt (v.x *ℤ u.w) (u.x *ℤ v.w))
  where
    by : LeX b a ⊎ LtX a b → LeX v u ⊎ LtX u v → int_lt (a.x *ℤ b.w) (b.x *ℤ a.w) ≡ int_lt (u.x *ℤ v.w) (v.x *ℤ u.w)
    by (inl p) (inl q) = lt_false p ∙ sym (lt_false q)
    by (inr p) q = lt_true p ∙ sym (lt_true (less_alike a b u v ha hb hu hv e f p))
    by (inl p) (inr q) = let g : LtX a b = less_alike u v a b hu hv ha hb (sym e) (sym f) q in absurd (omega (arith, linear))

-- ---- segments
pub segment_trans : (s t u : Segment) → HasPoints t → AlikeSegment s t → AlikeSegment t u → AlikeSegment s u
segment_trans s t u ht e f = (Same-trans s.a t.a u.a ht.0 e.0 f.0, Same-trans s.b t.b u.b ht.1 e.1 f.1)

pub rightward_points : (e : Segment) → HasPoints e → HasPoints (rightward e)
rightward_points e h = by (int_lt (e.b.x *ℤ e.a.w) (e.a.x *ℤ e.b.w))
  where
    by : (t : Bool) → HasPoints (cond t (segment e.b e.a) e)
    by true = (h.1, h.0)
    by false = h

pub rightward_alike : (e f : Segment) → HasPoints e → HasPoints f → AlikeSegment e f → AlikeSegment (rightward e) (rightward f)
rightward_alike e f he hf h =
    subst (λ t. AlikeSegment (rightward e) (cond t (segment f.b f.a) f)) (less_test e.b e.a f.b f.a he.1 he.0 hf.1 hf.0 h.1.0 h.0.0) (by (int_lt (e.b.x *ℤ e.a.w) (e.a.x *ℤ e.b.w)))
  where
    by : (t : Bool) → AlikeSegment (cond t (segment e.b e.a) e) (cond t (segment f.b f.a) f)
    by true = (h.1, h.0)
    by false = h

-- ---- one piece
module _ (p q : Piece) (hp : HasPoints p.part) (hq : HasPoints q.part) (e : AlikePiece p q) where
  pub reaches_alike : (l r : Vector) → IsPoint l → IsPoint r → Reaches l r p → Reaches l r q
  reaches_alike l r hl hr h = (before_alike p.part.a q.part.a l hp.0 hq.0 hl e.1.0.0 h.0, after_alike p.part.b q.part.b r hp.1 hq.1 hr e.1.1.0 h.1)

  pub lies_alike : (s : Segment) → LiesOn s p → LiesOn s q
  lies_alike s h = (zero_same (cross s.a s.b) p.part.a q.part.a hp.0 e.1.0 h.0, zero_same (cross s.a s.b) p.part.b q.part.b hp.1 e.1.1 h.1)

  pub mark_of_alike : (z : Vector) → IsPoint z → IsMark z p → IsMark z q
  mark_of_alike z hz (inl h) = inl (Same-trans z p.part.a q.part.a hp.0 h e.1.0)
  mark_of_alike z hz (inr (inl h)) = inr (inl (Same-trans z p.part.b q.part.b hp.1 h e.1.1))
  mark_of_alike z hz (inr (inr h)) = inr (inr (less_alike p.part.a p.part.b q.part.a q.part.b hp.0 hp.1 hq.0 hq.1 e.1.0.0 e.1.1.0 h.0, on_alike p.part q.part z hp hq e.1 hz h.1))

  pub edge_alike : (vs ws : List (List Vector)) (room : Frame) → AllZip AlikeSegment (boundary vs room) (boundary ws room) → AlikeSegment (edge_of vs room p) (edge_of ws room q)
  edge_alike vs ws room h = subst (λ n. AlikeSegment (edge_of vs room p) (edge_of ws room (piece n q.part))) e.0 (zip_at AlikeSegment (boundary vs room) (boundary ws room) nothing nothing ((refl, refl), (refl, refl)) h p.edge)

-- ---- pieces by number
pub swapped_piece : (p q : Piece) → AlikePiece p q → AlikePiece q p
swapped_piece p q e = (sym e.0, segment_swapped p.part q.part e.1)

module _ {vs ws : List (List Vector)} {room : Frame} {ps qs : List Piece} (g : AlikeGround vs ws room ps qs) where
  pub piece_alike : (n : ℕ) → AlikePiece (piece_at ps n) (piece_at qs n)
  piece_alike n = zip_at AlikePiece ps qs (piece 0 nothing) (piece 0 nothing) (refl, ((refl, refl), (refl, refl))) g.pieces n

  pub as_many : length ps ≡ length qs
  as_many = length_all_zip AlikePiece ps qs g.pieces
