-- Marks are the rising list of the heights of all pieces at the line.
use Rattle.std.proofs.Common.{◌⊎◌, inl, inr, List, get_or, All, Any, refl, sym, ◌≡◌, [], Contains, subst, ◌∷◌, pos, arith}
use Rattle.std.specs.List.{flat_map}
use Rattle.std.proofs.lemmas.List.{get_or_default}
use Rattle.std.proofs.lemmas.List.Elements.{All-contains, All-contains_itself}
use Rattle.plan_spec.specs.Vector.{Vector, IsPoint, LtY, SameX, SameY, Same, LeX, LtX, turn}
use Rattle.plan_spec.specs.Frame.{Frame}
use Rattle.plan_spec.specs.Pieces.{Piece}
use Rattle.plan_spec.specs.Slabs.{IsMark, AreMarks}
use Rattle.plan_plane.proofs.Lists.{any_none, any_with, any_weaker, any_flat, any_unflat, all_flat}
use Rattle.plan_plane.proofs.Rising.ByCoordinate.{order_x, order_y}
use Rattle.plan_plane.proofs.Rising.Lists.{IsOrder, IsRisingOf}
use Rattle.plan_plane.proofs.Segment.Same.{Same-swapped, Same-trans}
use Rattle.plan_slab.specs.Levels.{heights, strand}
use Rattle.plan_slab.proofs.ByNumber.{at_number}
use Rattle.plan_slab.proofs.Pieces.{IsPiece, HasPieces}
use Rattle.plan_slab.proofs.Sorted.Heights.{OnLine, PieceMarks, piece_heights, crossed}
use Rattle.plan_exact.proofs.Laws.{linear}
use Rattle.plan_plane.proofs.Segment.ByX.{leX_trans}
use Rattle.plan_slab.proofs.Order.Across.{IsSlab}
use Rattle.plan_slab.proofs.Order.OneOrder.{is_strand, on_strand}

-- the points of a line, by y
pub on_line : (l : Vector) → IsPoint l → IsOrder (OnLine l) LtY Same
on_line l hl = record {
  refl = λ a ha. (refl, refl);
  sym = λ a b ha hb e. Same-swapped a b e;
  trans = λ a b c ha hb hc e f. Same-trans a b c hb.0 e f;
  less = λ a b c ha hb hc. order_y.less a b c ha.0 hb.0 hc.0;
  less_equal = λ a b c ha hb hc h e. order_y.less_equal a b c ha.0 hb.0 hc.0 h e.1;
  equal_less = λ a b c ha hb hc e h. order_y.equal_less a b c ha.0 hb.0 hc.0 e.1 h;
  apart = λ a b ha hb h e. order_y.apart a b ha.0 hb.0 h e.1;
  total = λ a b ha hb. level a b ha hb (order_y.total a b ha.0 hb.0);
}
  where
    level : (a b : Vector) → OnLine l a → OnLine l b → LtY a b ⊎ (SameY a b ⊎ LtY b a) → LtY a b ⊎ (Same a b ⊎ LtY b a)
    level a b ha hb (inl h) = inl h
    level a b ha hb (inr (inl e)) = inr (inl (order_x.trans a l b ha.0 hl hb.0 (sym ha.1) hb.1, e))
    level a b ha hb (inr (inr h)) = inr (inr h)

-- what has the marks of some pieces on the line, and of all that have any
module _ {X : Type 0} (pieces : List Piece) (l : Vector) (hl : IsPoint l) (of : X → Piece) (marks : X → List Vector) (xs : List X) (are : All (λ x. Contains pieces (of x) × PieceMarks l (of x) (marks x)) xs)
    (every : All (λ p. Any (λ x. of x ≡ p) xs ⊎ PieceMarks l p []) pieces) where
  pub mark_points : All (OnLine l) (flat_map marks xs)
  mark_points = all_flat (OnLine l) marks xs (λ k d within. (are k d within).1.points)

  -- a point of the line is a mark of some piece exactly where it is one of these
  to_marks : (z : Vector) → IsPoint z → SameX l z → Any (IsMark z) pieces → Any (Same z) (flat_map marks xs)
  to_marks z hz e (k, p, within, is, m) = by (All-contains (λ p. Any (λ x. of x ≡ p) xs ⊎ PieceMarks l p []) pieces p every (k, within, is))
    where
      by : Any (λ x. of x ≡ p) xs ⊎ PieceMarks l p [] → Any (Same z) (flat_map marks xs)
      by (inl some) = any_flat (Same z) marks xs (any_with (λ x. Contains pieces (of x) × PieceMarks l (of x) (marks x)) (λ x. of x ≡ p) (λ x. Any (Same z) (marks x)) (λ x h same. (h.1.exact z hz e).0 (subst (IsMark z) (sym same) m)) xs are some)
      by (inr none) = absurd (any_none (Same z) ((none.exact z hz e).0 m))

  from_marks : (z : Vector) → IsPoint z → SameX l z → Any (Same z) (flat_map marks xs) → Any (IsMark z) pieces
  from_marks z hz e h =
      let (k, x, within, is, some) = any_unflat (Same z) marks xs h in
      let (has, m) = subst (λ x. Contains pieces (of x) × PieceMarks l (of x) (marks x)) is (are k x within) in
      (has.0, of x, has.1, has.2, (m.exact z hz e).1 some)

  -- a value of the one list, where each value of that is one of the other
  through : (z : Vector) (us vs : List Vector) → All (OnLine l) us → All (λ u. Any (Same u) vs) us → Any (Same z) us → Any (Same z) vs
  through z us vs hus h some =
      let (k, within, e) = at_number (Same z) us z some in
      any_weaker (Same (get_or us k z)) (Same z) (λ y f. Same-trans z (get_or us k z) y (hus k z within).0 e f) vs (h k z within)

  pub marks_from : (ms : List Vector) → IsRisingOf (OnLine l) LtY Same (flat_map marks xs) ms → AreMarks pieces l ms
  marks_from ms r = record {
    points = λ k d within. (r.points k d within).0;
    on_line = λ k d within. (r.points k d within).1;
    rising = r.rising;
    exact = λ z hz e. (
      λ h. through z (flat_map marks xs) ms mark_points r.all (to_marks z hz e h),
      λ h. from_marks z hz e (through z ms (flat_map marks xs) r.points r.each h),
    );
  }

  pub marks_to : (ms : List Vector) → AreMarks pieces l ms → IsRisingOf (OnLine l) LtY Same (flat_map marks xs) ms
  marks_to ms marked = record {
    points = λ k d within. (marked.points k d within, marked.on_line k d within);
    rising = marked.rising;
    each = λ k d within. let m = get_or ms k d in let hm = marked.points k d within in let e = marked.on_line k d within in to_marks m hm e ((marked.exact m hm e).1 (k, m, within, get_or_default ms k m d within, (refl, refl)));
    all = λ k d within. let h = get_or (flat_map marks xs) k d in let on = mark_points k d within in (marked.exact h on.0 on.1).0 (from_marks h on.0 on.1 (k, h, within, get_or_default (flat_map marks xs) k h d within, (refl, refl)));
  }

-- all pieces have their heights
module _ {sums : List (List Vector)} {room : Frame} {pieces : List Piece} (known : HasPieces sums room pieces) (l : Vector) (hl : IsPoint l) where
  pub of_pieces : All (λ p. Contains pieces p × PieceMarks l p (heights l p)) pieces
  of_pieces k d within = (All-contains_itself pieces k d within, let h = known.each k d within in piece_heights l (get_or pieces k d) hl h.part.points h.part.onward)

  pub each_piece : All (λ p. Any (λ x. x ≡ p) pieces ⊎ PieceMarks l p []) pieces
  each_piece k d within = inl (k, get_or pieces k d, within, get_or_default pieces k (get_or pieces k d) d within, refl)

-- where the edge of a piece that is not upright meets a line in the piece's range
pub on_edge : {sums : List (List Vector)} {room : Frame} {p : Piece} (l v : Vector) → IsPiece sums room p → IsPoint l → LtX p.part.a p.part.b → LeX p.part.a l → LeX l p.part.b → OnLine l v → turn (strand sums room p).a (strand sums room p).b v ≡ pos 0 → PieceMarks l p (v ∷ [])
on_edge {p = p} l v piece hl lt low high hv on_it =
    let hp = piece.part.points in
    let slab : IsSlab p.part.a p.part.b = record { left_point = hp.0; right_point = hp.1; wide = lt } in
    let lv : LeX l v = omega (arith, linear, hv.1) in
    let vl : LeX v l = omega (arith, linear, hv.1) in
    let whole = is_strand {l = p.part.a} {r = p.part.b} slab piece (omega (arith, linear), omega (arith, linear)) in
    crossed l p hl hp piece.part.onward lt v hv (on_strand slab whole v hv.0 (leX_trans p.part.a l v hp.0 hl hv.0 low lv) (leX_trans v l p.part.b hv.0 hl hp.1 vl high) on_it)
