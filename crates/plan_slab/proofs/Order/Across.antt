-- A point of a piece strictly between two lines across which the piece goes is an end neither of it nor of its edge.
use Rattle.std.proofs.Common.{◌⊎◌, inl, inr, ⊎_elim, List, arith}
use Rattle.plan_exact.proofs.Laws.{linear}
use Rattle.plan_spec.specs.Vector.{Vector, IsPoint, LeX, LtX, SameX}
use Rattle.plan_spec.specs.Segment.{On}
use Rattle.plan_spec.specs.Frame.{Frame}
use Rattle.plan_spec.specs.Pieces.{Piece}
use Rattle.plan_spec.specs.Slabs.{edge_of, InSlab, Reaches}
use Rattle.plan_plane.proofs.Segment.ByX.{leX_ltX, ltX_leX}
use Rattle.plan_plane.proofs.Segment.Part.{on_part_of}
use Rattle.plan_slab.proofs.Order.Beside.{IsWithin}
use Rattle.plan_slab.proofs.Pieces.{IsPiece}

-- l and r are two lines, from left to right
pub record IsSlab (l r : Vector) : Type 0 where
  pub left_point : IsPoint l
  pub right_point : IsPoint r
  pub wide : LtX l r

-- strictly between two points of a segment by x is no end of it
no_end : (a b u v z : Vector) → IsPoint a → IsPoint b → IsPoint u → IsPoint v → IsPoint z → LtX u z → LtX z v → (LeX a u × LeX u b) ⊎ (LeX b u × LeX u a) → (LeX a v × LeX v b) ⊎ (LeX b v × LeX v a) → ¬ (SameX z a)
no_end a b u v z ha hb hu hv hz uz zv (inl h) k e = omega (arith, linear, leX_ltX a u z ha hu hz h.0 uz)
no_end a b u v z ha hb hu hv hz uz zv h (inr k) e = omega (arith, linear, ltX_leX z v a hz hv ha zv k.1)
no_end a b u v z ha hb hu hv hz uz zv (inr h) (inl k) e = omega (arith, linear, ltX_leX z v b hz hv hb zv k.1, leX_ltX b u z hb hu hz h.0 uz)

pub within_piece : {sums : List (List Vector)} {room : Frame} {l r : Vector} {p : Piece} → IsSlab l r → IsPiece sums room p → Reaches l r p → (z : Vector) → IsPoint z → InSlab l r z → On p.part z → IsWithin p.part z
within_piece {l = l} {r} {p} slab piece reach z hz inside on =
    let az = leX_ltX p.part.a l z piece.part.points.0 slab.left_point hz reach.0 inside.0 in
    let zb = ltX_leX z r p.part.b hz slab.right_point piece.part.points.1 inside.1 reach.1 in
    record { on = on; not_first = λ s. omega (arith, linear, s.0); not_last = λ s. omega (arith, linear, s.0) }

pub within_edge : {sums : List (List Vector)} {room : Frame} {l r : Vector} {p : Piece} → IsSlab l r → IsPiece sums room p → Reaches l r p → (z : Vector) → IsPoint z → InSlab l r z → On p.part z → IsWithin (edge_of sums room p) z
within_edge {sums} {room} {l} {r} {p} slab piece reach z hz inside on =
    let e = edge_of sums room p in
    let he = piece.edge_points in
    let hp = piece.part.points in
    let az = leX_ltX p.part.a l z hp.0 slab.left_point hz reach.0 inside.0 in
    let zb = ltX_leX z r p.part.b hz slab.right_point hp.1 inside.1 reach.1 in
    let u = piece.part.from.within_x in
    let v = piece.part.to.within_x in
    record {
      on = on_part_of e p.part z he hp hz piece.part.from piece.part.to on;
      not_first = λ s. no_end e.a e.b p.part.a p.part.b z he.0 he.1 hp.0 hp.1 hz az zb u v s.0;
      not_last = λ s. no_end e.b e.a p.part.a p.part.b z he.1 he.0 hp.0 hp.1 hz az zb (⊎_elim inr inl u) (⊎_elim inr inl v) s.0;
    }
