-- A bar that is not upright has the x of each point between the ends of its piece in the range of its strand; so it meets a line that its piece reaches, and is over the mediant of a slab that its piece crosses.
use Rattle.std.proofs.Common.{◌≡◌, ◌⊎◌, inl, inr, ◌*ℤ◌, Bool, true, false, cond, int_lt, List, refl, sym, subst, arith}
use Rattle.plan_exact.proofs.Laws.{linear}
use Rattle.plan_exact.proofs.Signs.{le_or_lt}
use Rattle.plan_exact.proofs.Tests.{lt_from_true, le_from_false}
use Rattle.plan_spec.specs.Vector.{Vector, IsPoint, LeX, LtX}
use Rattle.plan_spec.specs.Segment.{Segment, segment, HasPoints}
use Rattle.plan_spec.specs.Frame.{Frame}
use Rattle.plan_spec.specs.Pieces.{Piece}
use Rattle.plan_spec.specs.Slabs.{edge_of, rightward}
use Rattle.plan_spec.specs.Regions.{mediant}
use Rattle.plan_plane.proofs.Segment.ByX.{leX_trans, leX_ltX, ltX_leX}
use Rattle.plan_grid.specs.Fraction.{Fraction}
use Rattle.plan_slab.specs.declared.bar.Bar.{Bar}
use Rattle.plan_slab.specs.Bars.{IsBar}
use Rattle.plan_slab.specs.Heights.{IsOver}
use Rattle.plan_slab.specs.LineMarks.{IsUpright, Meets}
use Rattle.plan_slab.specs.Seen.{line_seen, strand_seen}
use Rattle.plan_slab.specs.Sweeps.{BeginsBy, LastsTo}
use Rattle.plan_slab.proofs.Order.Across.{IsSlab}
use Rattle.plan_slab.proofs.Order.Feet.{mediant_inside, mediant_point}
use Rattle.plan_slab.proofs.Order.OneOrder.{is_strand}
use Rattle.plan_slab.proofs.Pieces.{IsPiece}

-- what is between the ends of a segment by x is so from left to right
rightward_range : (e : Segment) (z : Vector) → HasPoints e → IsPoint z → (LeX e.a z × LeX z e.b) ⊎ (LeX e.b z × LeX z e.a) → LeX (rightward e).a z × LeX z (rightward e).b
rightward_range e z he hz h = by (int_lt (e.b.x *ℤ e.a.w) (e.a.x *ℤ e.b.w)) refl h
  where
    by : (t : Bool) → int_lt (e.b.x *ℤ e.a.w) (e.a.x *ℤ e.b.w) ≡ t → (LeX e.a z × LeX z e.b) ⊎ (LeX e.b z × LeX z e.a) → LeX (cond t (segment e.b e.a) e).a z × LeX z (cond t (segment e.b e.a) e).b
    by true p (inr k) = k
    by true p (inl k) = absurd (omega (arith, linear, k.1, ltX_leX e.b e.a z he.1 he.0 hz (lt_from_true (e.b.x *ℤ e.a.w) (e.a.x *ℤ e.b.w) p) k.0))
    by false p (inl k) = k
    by false p (inr k) =
        let le : LeX e.a e.b = le_from_false (e.b.x *ℤ e.a.w) (e.a.x *ℤ e.b.w) p in
        (leX_trans e.a e.b z he.0 he.1 hz le k.0, leX_trans z e.a e.b hz he.0 he.1 k.1 le)

module _ {sums : List (List Vector)} {room : Frame} {pieces : List Piece} (b : Bar) (bar : IsBar sums room pieces b) (piece : IsPiece sums room b.piece) where
  pub over : (z : Vector) → LtX b.piece.part.a b.piece.part.b → IsPoint z → LeX b.piece.part.a z → LeX z b.piece.part.b → IsOver b.strand z
  over z lt hz low high =
      let p = b.piece in
      let e = edge_of sums room p in
      let hp = piece.part.points in
      let slab : IsSlab p.part.a p.part.b = record { left_point = hp.0; right_point = hp.1; wide = lt } in
      let from : LeX (strand_seen b.strand).a p.part.a = subst (λ s. LeX s.a p.part.a) (sym bar.on_edge.edge) (rightward_range e p.part.a piece.edge_points hp.0 piece.part.from.within_x).0 in
      let to : LeX p.part.b (strand_seen b.strand).b = subst (λ s. LeX p.part.b s.b) (sym bar.on_edge.edge) (rightward_range e p.part.b piece.edge_points hp.1 piece.part.to.within_x).1 in
      let rises : LtX (strand_seen b.strand).a (strand_seen b.strand).b = subst (λ s. LtX s.a s.b) (sym bar.on_edge.edge) (is_strand {l = p.part.a} {r = p.part.b} slab piece (omega (arith, linear), omega (arith, linear))).rises in
      let a_point : IsPoint (strand_seen b.strand).a = omega arith in
      let b_point : IsPoint (strand_seen b.strand).b = omega arith in
      let f = leX_trans (strand_seen b.strand).a p.part.a z a_point hp.0 hz from low in
      let t = leX_trans z p.part.b (strand_seen b.strand).b hz hp.1 b_point high to in
      record {
        a_bounded = bar.on_edge.a_bounded;
        b_bounded = bar.on_edge.b_bounded;
        rising = omega (arith, linear, rises);
        from = omega (arith, linear, f);
        to = omega (arith, linear, t);
      }

  rises : ¬ (IsUpright b) → LtX b.piece.part.a b.piece.part.b
  rises off = by (le_or_lt (b.piece.part.b.x *ℤ b.piece.part.a.w) (b.piece.part.a.x *ℤ b.piece.part.b.w)) (le_or_lt (b.piece.part.a.x *ℤ b.piece.part.b.w) (b.piece.part.b.x *ℤ b.piece.part.a.w))
    where
      by : LeX b.piece.part.b b.piece.part.a ⊎ LtX b.piece.part.a b.piece.part.b → LeX b.piece.part.a b.piece.part.b ⊎ LtX b.piece.part.b b.piece.part.a → LtX b.piece.part.a b.piece.part.b
      by (inr lt) s = lt
      by (inl le) (inr lt) = absurd (piece.part.onward (inl lt))
      by (inl le) (inl ge) = absurd (off (omega (arith, linear, le, ge)))

  pub bar_meets : (l : Fraction) → IsPoint (line_seen l) → BeginsBy l b → LastsTo l b → Meets l b
  bar_meets l hl begins lasts = record {
    over = λ off. over (line_seen l) (rises off) hl begins lasts;
    along = λ up.
        let hp = piece.part.points in
        let ba : LeX b.piece.part.b b.piece.part.a = omega (arith, linear, up) in
        let la = leX_trans (line_seen l) b.piece.part.b b.piece.part.a hl hp.1 hp.0 lasts ba in
        let bl = leX_trans b.piece.part.b b.piece.part.a (line_seen l) hp.1 hp.0 hl ba begins in
        (omega (arith, linear, la, begins), omega (arith, linear, bl, lasts));
  }

  pub bar_over : (l r : Fraction) → IsSlab (line_seen l) (line_seen r) → BeginsBy l b → LastsTo r b → IsOver b.strand (mediant (line_seen l) (line_seen r))
  bar_over l r slab begins lasts =
      let hp = piece.part.points in
      let m = mediant (line_seen l) (line_seen r) in
      let hm = mediant_point (line_seen l) (line_seen r) slab.left_point slab.right_point in
      let im = mediant_inside (line_seen l) (line_seen r) slab.wide in
      let am = leX_ltX b.piece.part.a (line_seen l) m hp.0 slab.left_point hm begins im.0 in
      let mb = ltX_leX m (line_seen r) b.piece.part.b hm slab.right_point hp.1 im.1 lasts in
      over m (ltX_leX b.piece.part.a m b.piece.part.b hp.0 hm hp.1 am (omega (arith, linear, mb))) hm (omega (arith, linear, am)) (omega (arith, linear, mb))
