-- Of two neighbouring spans the lower one is below the upper one throughout the open slab, so not above it on its two lines, where they meet marks in their order.
use Rattle.std.proofs.Common.{◌≡◌, ◌⊎◌, inl, inr, ⊎_elim, ℕ, suc, ◌<◌, ◌≤◌, ℤ, pos, ◌+ℤ◌, ◌*ℤ◌, neg_ℤ, ◌≤ℤ◌, ◌<ℤ◌, List, [], ◌∷◌, length, get_or, sym, ◌∙◌, subst, arith}
use Rattle.std.proofs.lemmas.Bool.{cases_order}
use Rattle.plan_exact.specs.Expr.{var, con, ◌⊕◌, ◌⊖◌, ◌⊗◌, neg}
use Rattle.plan_exact.specs.Vectors.{sum, scaled, env}
use Rattle.plan_exact.specs.Formal.{A, B, C, J, K}
use Rattle.plan_exact.proofs.Certificates.{lt_from}
use Rattle.plan_exact.proofs.Laws.{linear}
use Rattle.plan_exact.proofs.Ring.{ring}
use Rattle.plan_exact.proofs.Signs.{signs, mul_pos, mul_nonneg, mul_of_zero, neg_pos, le_of_lt, le_or_lt}
use Rattle.plan_exact.proofs.Vectors.{det_combination_3}
use Rattle.plan_spec.specs.Vector.{Vector, IsPoint, LeX, LtX, turn}
use Rattle.plan_spec.specs.Segment.{Segment}
use Rattle.plan_spec.specs.Frame.{Frame}
use Rattle.plan_spec.specs.Pieces.{Piece}
use Rattle.plan_spec.specs.Slabs.{nowhere, nothing, InSlab, Below, Slabs, line_at, spans_of, span_at, marks_of}
use Rattle.plan_spec.specs.Regions.{foot, mediant}
use Rattle.plan_plane.proofs.Segment.ByX.{leX_trans}
use Rattle.plan_slab.specs.Levels.{run}
use Rattle.plan_spec.specs.Neighbours.{meets}
use Rattle.plan_slab.specs.Meets.{MeetsMark}
use Rattle.plan_slab.proofs.Meets.AtLine.{foot_mark, marks_below, meets_mark}
use Rattle.plan_slab.proofs.Order.Across.{IsSlab}
use Rattle.plan_slab.proofs.Order.Feet.{foot_point, foot_in_line, mediant_point, mediant_inside}
use Rattle.plan_slab.proofs.Order.OneOrder.{run_pos, foot_inside}
use Rattle.plan_slab.proofs.Regions.Cells.{SpannedSlab, two_lines, span_piece}
use Rattle.plan_slab.proofs.Regions.ExactlyOne.{KnownSlabs, slab_at, line_of, has_lines}

-- ---- on the closed slab
-- on the way from a point of the open slab to one of the closed one
after : (i j : ℤ) (m z l : Vector) → pos 0 <ℤ i → pos 0 ≤ℤ j → LtX l m → LeX l z → LtX l (sum (scaled i m) (scaled j z))
after i j m z l hi hj h k = lt_from (env (i ∷ j ∷ []) (m ∷ z ∷ l ∷ [])) (con (pos 1)) (J ⊗ (A.x ⊗ C.w ⊖ C.x ⊗ A.w) ⊕ K ⊗ (B.x ⊗ C.w ⊖ C.x ⊗ B.w)) (C.x ⊗ (J ⊗ A.w ⊕ K ⊗ B.w)) ((J ⊗ A.x ⊕ K ⊗ B.x) ⊗ C.w) tt (search signs) (search signs)

before : (i j : ℤ) (m z r : Vector) → pos 0 <ℤ i → pos 0 ≤ℤ j → LtX m r → LeX z r → LtX (sum (scaled i m) (scaled j z)) r
before i j m z r hi hj h k = lt_from (env (i ∷ j ∷ []) (m ∷ z ∷ r ∷ [])) (con (pos 1)) (J ⊗ (C.x ⊗ A.w ⊖ A.x ⊗ C.w) ⊕ K ⊗ (C.x ⊗ B.w ⊖ B.x ⊗ C.w)) ((J ⊗ A.x ⊕ K ⊗ B.x) ⊗ C.w) (C.x ⊗ (J ⊗ A.w ⊕ K ⊗ B.w)) tt (search signs) (search signs)

cancel : (x y : ℤ) → neg_ℤ y *ℤ x +ℤ x *ℤ y ≡ pos 0
cancel x y = ring (x ∷ y ∷ []) (neg (var 1) ⊗ var 0 ⊕ var 0 ⊗ var 1) (con (pos 0)) tt

closed_below : (l r : Vector) (s t : Segment) → IsSlab l r → pos 0 <ℤ run t → Below l r s t → (z : Vector) → IsPoint z → LeX l z → LeX z r → pos 0 ≤ℤ turn t.a t.b z → pos 0 ≤ℤ turn s.a s.b z
closed_below l r s t slab ht below z hz lz zr above = by (le_or_lt (pos 0) (turn s.a s.b z))
  where
    by : (pos 0 ≤ℤ turn s.a s.b z) ⊎ (turn s.a s.b z <ℤ pos 0) → pos 0 ≤ℤ turn s.a s.b z
    by (inl h) = h
    by (inr h) =
        let m = mediant l r in
        let v = foot t m in
        let hm = mediant_point l r slab.left_point slab.right_point in
        let hv = foot_point t m ht hm in
        let iv = foot_inside l r t m slab ht hm (mediant_inside l r slab.wide) in
        let zero : turn t.a t.b v ≡ pos 0 = foot_in_line t m in
        let sv : pos 0 <ℤ turn s.a s.b v = below v hv iv (omega (arith, linear, zero)) in
        let i = neg_ℤ (turn s.a s.b z) in
        let j = turn s.a s.b v in
        let hi : pos 0 <ℤ i = neg_pos h in
        let c = sum (scaled i v) (scaled j z) in
        let hc : IsPoint c = omega (arith, linear, mul_pos hi hv, mul_pos sv hz) in
        let ic : InSlab l r c = (after i j v z l hi (le_of_lt sv) iv.0 lz, before i j v z r hi (le_of_lt sv) iv.1 zr) in
        let tc : pos 0 ≤ℤ turn t.a t.b c = omega (arith, linear, det_combination_3 i j v z t.a t.b, mul_of_zero i (turn t.a t.b v) zero, mul_nonneg (le_of_lt sv) above) in
        let sc : turn s.a s.b c ≡ pos 0 = det_combination_3 i j v z s.a s.b ∙ cancel (turn s.a s.b v) (turn s.a s.b z) in
        absurd (omega (arith, linear, below c hc ic tc, sc))

-- ---- by number
module _ {sums : List (List Vector)} {room : Frame} {pieces : List Piece} {σ : Slabs} (map : KnownSlabs sums room pieces σ) (k : ℕ) (hk : k < length σ.spans) where
  slab : SpannedSlab sums room pieces σ.lines k (spans_of σ k)
  slab = slab_at map k hk

  lines : IsSlab (line_at σ k) (line_at σ (suc k))
  lines = two_lines slab

  -- the line h is one of the two
  abbrev Beside : ℕ → Type 0
  Beside h = (h ≡ k) ⊎ (h ≡ suc k)

  is_line : (h : ℕ) → Beside h → h < length σ.marks
  is_line h b = ⊎_elim (λ e. omega (arith, e, has_lines map k hk, map.slabs.line_count)) (λ e. omega (arith, e, has_lines map k hk, map.slabs.line_count)) b

  from : (h : ℕ) → Beside h → LeX (line_at σ k) (line_at σ h)
  from h (inl e) = subst (λ n. LeX (line_at σ k) (line_at σ n)) (sym e) (omega (arith, linear))
  from h (inr e) = subst (λ n. LeX (line_at σ k) (line_at σ n)) (sym e) (le_of_lt lines.wide)

  to : (h : ℕ) → Beside h → LeX (line_at σ h) (line_at σ (suc k))
  to h (inl e) = subst (λ n. LeX (line_at σ n) (line_at σ (suc k))) (sym e) (le_of_lt lines.wide)
  to h (inr e) = subst (λ n. LeX (line_at σ n) (line_at σ (suc k))) (sym e) (omega (arith, linear))

  pub meets_at : (i h : ℕ) → i < length (spans_of σ k) → Beside h → MeetsMark (span_at σ k i) (marks_of σ h)
  meets_at i h hi b =
      let line = line_of map h (is_line h b) in
      let q = span_piece slab i hi in
      meets_mark lines q.strand line.point line.marks (foot_mark lines q.strand line.point line.marks q.has (from h b) (to h b))

  pub meets_in_order : (i h : ℕ) → suc i < length (spans_of σ k) → Beside h → meets (span_at σ k i) (marks_of σ h) ≤ meets (span_at σ k (suc i)) (marks_of σ h)
  meets_in_order i h hi b = by (cases_order (meets s ms) (meets t ms))
    where
      s : Segment
      s = span_at σ k i

      t : Segment
      t = span_at σ k (suc i)

      ms : List Vector
      ms = marks_of σ h

      m : Vector
      m = get_or (marks_of σ h) (meets (span_at σ k (suc i)) (marks_of σ h)) nowhere

      ps : MeetsMark (span_at σ k i) (marks_of σ h)
      ps = meets_at i h (omega arith) b

      pt : MeetsMark (span_at σ k (suc i)) (marks_of σ h)
      pt = meets_at (suc i) h hi b

      -- the mark that the upper one meets is not below the lower one
      not_below : pos 0 ≤ℤ turn s.a s.b m
      not_below =
          let line = line_of map h (is_line h b) in
          let hm = line.marks.points (meets t ms) nowhere pt.within in
          let e = line.marks.on_line (meets t ms) nowhere pt.within in
          let lm : LeX (line_at σ h) m = omega (arith, linear) in
          let ml : LeX m (line_at σ h) = omega (arith, linear) in
          closed_below (line_at σ k) (line_at σ (suc k)) s t lines (run_pos (span_piece slab (suc i) hi).strand) (slab.spans.order i (suc i) nothing (omega arith) hi) m hm
          (leX_trans (line_at σ k) (line_at σ h) m lines.left_point line.point hm (from h b) lm) (leX_trans m (line_at σ h) (line_at σ (suc k)) hm line.point lines.right_point ml (to h b)) (omega (arith, linear, pt.on))

      by : (meets s ms ≡ meets t ms) ⊎ ((meets s ms < meets t ms) ⊎ (meets t ms < meets s ms)) → meets s ms ≤ meets t ms
      by (inl e) = omega (arith, e)
      by (inr (inl less)) = omega (arith, less)
      by (inr (inr more)) =
          let line = line_of map h (is_line h b) in
          let q = span_piece slab i (omega arith) in
          absurd (omega (arith, linear, not_below, marks_below lines q.strand line.point line.marks (meets t ms) (meets s ms) more ps.within (omega (arith, linear, ps.on))))
