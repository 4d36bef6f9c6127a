-- A span is an edge of a sum, or a side of the room, from left to right across its slab: so it is tight.
use Rattle.std.proofs.Common.{inl, inr, zero, suc, ◌*ℤ◌, Bool, true, false, cond, int_lt, List, Contains, sym, subst, arith}
use Rattle.plan_exact.proofs.Laws.{linear}
use Rattle.plan_spec.specs.Vector.{Vector, LeX, LtX, Before}
use Rattle.plan_spec.specs.Segment.{Segment, segment, HasPoints, On}
use Rattle.plan_spec.specs.Frame.{Frame}
use Rattle.plan_spec.specs.Boundary.{sides, boundary}
use Rattle.plan_spec.specs.Pieces.{Piece, piece}
use Rattle.plan_spec.specs.Reply.{AreBeyondOneSide, IsTight}
use Rattle.plan_spec.specs.Slabs.{nothing, edge_of, piece_at, rightward, IsSpan}
use Rattle.plan_plane.proofs.Boundary.Between.{edge_held, as_rectangle}
use Rattle.plan_plane.proofs.Boundary.Blocks.{rectangle}
use Rattle.plan_plane.proofs.Boundary.Floor.{IsFloor, Origin, of_sum, of_side, origin}
use Rattle.plan_plane.proofs.Segment.Between.{on, between_first, between_second}
use Rattle.plan_plane.proofs.Segment.ByX.{leX_trans}
use Rattle.plan_plane.proofs.Segment.Reversed.{on_reversed}
use Rattle.plan_slab.proofs.Order.Across.{IsSlab}
use Rattle.plan_slab.proofs.Order.OneOrder.{is_strand}
use Rattle.plan_slab.proofs.Pieces.{HasPieces, IsPiece, in_range}

-- ---- an edge of the boundary
side_beyond : (lx ly hx hy : _) (e : Segment) → Contains (sides (rectangle lx ly hx hy)) e → AreBeyondOneSide (rectangle lx ly hx hy) e
side_beyond lx ly hx hy e (zero, within, is) = subst (AreBeyondOneSide (rectangle lx ly hx hy)) is (inr (inr (inl (omega (arith, linear), omega (arith, linear)))))
side_beyond lx ly hx hy e (suc zero, within, is) = subst (AreBeyondOneSide (rectangle lx ly hx hy)) is (inr (inl (omega (arith, linear), omega (arith, linear))))
side_beyond lx ly hx hy e (suc (suc zero), within, is) = subst (AreBeyondOneSide (rectangle lx ly hx hy)) is (inr (inr (inr (omega (arith, linear), omega (arith, linear)))))
side_beyond lx ly hx hy e (suc (suc (suc zero)), within, is) = subst (AreBeyondOneSide (rectangle lx ly hx hy)) is (inl (omega (arith, linear), omega (arith, linear)))
side_beyond lx ly hx hy e (suc (suc (suc (suc k))), within, is) = absurd (omega arith)

edge_tight : {sums : List (List Vector)} {room : Frame} → IsFloor sums room → (e : Segment) → Contains (boundary sums room) e → IsTight sums room e
edge_tight {sums} {room} floor e has = by (origin floor e has)
  where
    by : Origin sums room e → IsTight sums room e
    by (of_side among) = inr (subst (λ room. Contains (sides room) e → AreBeyondOneSide room e) (as_rectangle room floor.spots) (side_beyond room.low.x room.low.y room.high.x room.high.y e) among)
    by (of_sum vs (k, within, is) edge) = inl (k, vs, within, is, (edge_held e.a edge edge.a_point (on (between_first e.a e.b edge.a_point)), edge_held e.b edge edge.b_point (on (between_second e.a e.b edge.b_point))))

-- ---- the same from left to right
turned : (sums : List (List Vector)) (room : Frame) (e : Segment) → IsTight sums room e → IsTight sums room (segment e.b e.a)
turned sums room e (inl (k, vs, within, is, (p, q))) = inl (k, vs, within, is, (q, p))
turned sums room e (inr (inl (p, q))) = inr (inl (q, p))
turned sums room e (inr (inr (inl (p, q)))) = inr (inr (inl (q, p)))
turned sums room e (inr (inr (inr (inl (p, q))))) = inr (inr (inr (inl (q, p))))
turned sums room e (inr (inr (inr (inr (p, q))))) = inr (inr (inr (inr (q, p))))

-- what holds of a segment both ways
rightly : (P : Segment → Type 0) (e : Segment) → P e → P (segment e.b e.a) → P (rightward e)
rightly P e h k = by (int_lt (e.b.x *ℤ e.a.w) (e.a.x *ℤ e.b.w))
  where
    by : (t : Bool) → P (cond t (segment e.b e.a) e)
    by true = k
    by false = h

-- ---- a span
pub record IsAcross (sums : List (List Vector)) (room : Frame) (l r : Vector) (s : Segment) : Type 0 where
  pub points : HasPoints s
  pub tight : IsTight sums room s
  pub from : LeX s.a l
  pub to : LeX r s.b

pub span_across : {sums : List (List Vector)} {room : Frame} {pieces : List Piece} (l r : Vector) (s : Segment) → HasPieces sums room pieces → IsSlab l r → IsSpan sums room pieces l r s → IsAcross sums room l r s
span_across {sums} {room} {pieces} l r s known slab span = subst (IsAcross sums room l r) (sym span.is) (record {
  points = pts;
  tight = rightly (IsTight sums room) e (edge_tight known.floor e it.is_edge) (turned sums room e (edge_tight known.floor e it.is_edge));
  from = leX_trans t.a p.part.a l pts.0 it.part.points.0 slab.left_point (in_range t p.part.a pts it.part.points.0 onward (on_it p.part.a it.part.from)).0 span.reaches.0;
  to = leX_trans r p.part.b t.b slab.right_point it.part.points.1 pts.1 span.reaches.1 (in_range t p.part.b pts it.part.points.1 onward (on_it p.part.b it.part.to)).1;
})
  where
    p : Piece
    p = piece_at pieces span.number

    it : IsPiece sums room (piece_at pieces span.number)
    it = known.each span.number (piece 0 nothing) span.within

    e : Segment
    e = edge_of sums room (piece_at pieces span.number)

    t : Segment
    t = rightward e

    pts : HasPoints (rightward (edge_of sums room (piece_at pieces span.number)))
    pts = let h = it.edge_points in rightly HasPoints e h (h.1, h.0)

    rises : LtX t.a t.b
    rises = (is_strand slab it span.reaches).rises

    onward : ¬ (Before t.b t.a)
    onward (inl h) = omega (arith, linear, h, rises)
    onward (inr h) = omega (arith, linear, h.0, rises)

    on_it : (v : Vector) → On e v → On t v
    on_it v h = rightly (λ e. On e v) e h (on_reversed e.a e.b v h)
