-- Three rows that sink: how far a point is right of the lines, above the marks of a line, and above the spans of a slab.
use Rattle.std.proofs.Common.{◌≡◌, inl, inr, ℕ, zero, suc, ◌<◌, ◌≤◌, pos, ◌*ℤ◌, ◌≤ℤ◌, ◌<ℤ◌, [], ◌∷◌, length, refl, sym, subst, eq-or-lt_of_le, arith}
use Rattle.plan_exact.specs.Expr.{con, ◌⊕◌, ◌⊗◌, neg}
use Rattle.plan_exact.specs.Vectors.{env}
use Rattle.plan_exact.specs.Formal as F
use Rattle.plan_exact.specs.Formal.{A, B, C, D, E}
use Rattle.plan_exact.proofs.Laws.{linear}
use Rattle.plan_exact.proofs.Certificates.{lt_from, le_from, eq_from}
use Rattle.plan_exact.proofs.Signs.{signs, zeros, le_of_lt, le_or_lt, mul_pos, mul_nonneg, pos_of_mul, nonneg_of_mul}
use Rattle.plan_spec.specs.Vector.{Vector, IsPoint, LeX, LtX, turn}
use Rattle.plan_spec.specs.Segment.{Segment}
use Rattle.plan_spec.specs.Slabs.{Slabs, InSlab, line_at, spans_of, span_at, marks_of, mark_at}
use Rattle.plan_plane.proofs.Rising.ByCoordinate.{order_x}
use Rattle.plan_plane.proofs.Segment.Between.{flip}
use Rattle.plan_plane.proofs.Segment.ByX.{ltX_leX}
use Rattle.plan_plane.proofs.Segment.Line.{right, formal_right}
use Rattle.plan_slab.specs.Decomposition.{AreInOrder, IsPlaced}
use Rattle.plan_slab.proofs.Regions.Falling.{Falls}
use Rattle.plan_slab.proofs.Regions.Rows.{right_of, above_mark, above_span}
use Rattle.plan_map.proofs.Location.Sinking.{Sinks, falls_sinks}
use Rattle.plan_map.proofs.Path.Places.{IsLineOf, meets_at, is_line, marks_le, meets_rise, met, met_point, on_span, not_below_span}

-- ---- what is not below the line of t is not below that of s, where two points of the line of t, on both sides of it, are not below that of s
alike : (t : Segment) (a b z : Vector) → turn t.a t.b a ≡ pos 0 → turn t.a t.b b ≡ pos 0 → right t.a t.b *ℤ turn a b z ≡ right a b *ℤ turn t.a t.b z
alike t a b z ha hb =
    eq_from (env [] (t.a ∷ t.b ∷ a ∷ b ∷ z ∷ [])) (con (pos 1)) (formal_right D E ⊗ F.det A B C ⊕ neg (formal_right C E) ⊗ F.det A B D) (formal_right A B ⊗ F.det C D E) (formal_right C D ⊗ F.det A B E) tt (search signs) (search zeros)

pub record AreOver (s t : Segment) (a b z : Vector) : Type 0 where
  pub first : LtX s.a s.b
  pub second : LtX t.a t.b
  pub wide : LtX a b
  pub after : LeX a z
  pub before : LeX z b
  pub on_left : turn t.a t.b a ≡ pos 0
  pub on_right : turn t.a t.b b ≡ pos 0
  pub left : pos 0 ≤ℤ turn s.a s.b a
  pub right : pos 0 ≤ℤ turn s.a s.b b

pub over_positive : (s t : Segment) (a b z : Vector) → AreOver s t a b z → pos 0 <ℤ turn t.a t.b z → pos 0 <ℤ turn s.a s.b z
over_positive s t a b z o h =
    let p : pos 0 <ℤ right s.a s.b = omega (arith, linear, o.first) in
    let q : pos 0 <ℤ right t.a t.b = omega (arith, linear, o.second) in
    let r : pos 0 <ℤ right a b = omega (arith, linear, o.wide) in
    let i : pos 0 ≤ℤ right z b = omega (arith, linear, o.before) in
    let j : pos 0 ≤ℤ right a z = omega (arith, linear, o.after) in
    let k = o.left in
    let l = o.right in
    let m : pos 0 <ℤ turn a b z = pos_of_mul q (omega (arith, linear, alike t a b z o.on_left o.on_right, mul_pos r h)) in
    lt_from (env [] (s.a ∷ s.b ∷ a ∷ b ∷ z ∷ [])) (formal_right C D) (F.det C D E ⊗ formal_right A B ⊕ (formal_right E D ⊗ F.det A B C ⊕ formal_right C E ⊗ F.det A B D)) F.zero (F.det A B E) tt r (search signs)

pub over_nonneg : (s t : Segment) (a b z : Vector) → AreOver s t a b z → pos 0 ≤ℤ turn t.a t.b z → pos 0 ≤ℤ turn s.a s.b z
over_nonneg s t a b z o h =
    let p : pos 0 <ℤ right s.a s.b = omega (arith, linear, o.first) in
    let q : pos 0 <ℤ right t.a t.b = omega (arith, linear, o.second) in
    let r : pos 0 <ℤ right a b = omega (arith, linear, o.wide) in
    let i : pos 0 ≤ℤ right z b = omega (arith, linear, o.before) in
    let j : pos 0 ≤ℤ right a z = omega (arith, linear, o.after) in
    let k = o.left in
    let l = o.right in
    let m : pos 0 ≤ℤ turn a b z = nonneg_of_mul q (omega (arith, linear, alike t a b z o.on_left o.on_right, mul_nonneg (le_of_lt r) h)) in
    le_from (env [] (s.a ∷ s.b ∷ a ∷ b ∷ z ∷ [])) (formal_right C D) (F.det C D E ⊗ formal_right A B ⊕ (formal_right E D ⊗ F.det A B C ⊕ formal_right C E ⊗ F.det A B D)) F.zero (F.det A B E) tt r (search signs)

-- ---- lines and marks
module _ {σ : Slabs} (placed : IsPlaced σ) (z : Vector) (hz : IsPoint z) where
  pub lines_fall : Falls (length σ.lines) (right_of σ.lines z)
  lines_fall i j lt hj h =
      let hi : i < length σ.lines = omega arith in
      omega (arith, linear, ltX_leX (line_at σ i) (line_at σ j) z (placed.line_points i hi) (placed.line_points j hj) hz (placed.lines_rise i j lt hj) (omega (arith, linear)))

  pub marks_sink : (k : ℕ) → k < length σ.lines → Sinks (length (marks_of σ k)) (above_mark (marks_of σ k) z)
  marks_sink k hk = falls_sinks (length (marks_of σ k)) (above_mark (marks_of σ k) z) falls
    where
      falls : Falls (length (marks_of σ k)) (above_mark (marks_of σ k) z)
      falls i j lt hj h =
          let hi : i < length (marks_of σ k) = omega arith in
          omega (arith, linear, ltX_leX (flip (mark_at σ k i)) (flip (mark_at σ k j)) (flip z) (placed.mark_points k i hk hi) (placed.mark_points k j hk hj) hz (placed.marks_rise k i j hk lt hj) (omega (arith, linear)))

-- ---- spans
-- what rises from each number to the next rises
rises_along : (n : ℕ) (f : ℕ → ℕ) → ((i : ℕ) → suc i < n → f i ≤ f (suc i)) → (i j : ℕ) → i ≤ j → j < n → f i ≤ f j
rises_along n f step zero zero le hj = omega arith
rises_along n f step (suc i) zero le hj = absurd (omega arith)
rises_along n f step i (suc j) le hj = elim (eq-or-lt_of_le le) [
  | inl e ↦ subst (λ k. f i ≤ f k) e (omega arith)
  | inr lt ↦ (let h = rises_along n f step i j (omega arith) (omega arith) in omega (arith, h, step j hj))
]

module _ {σ : Slabs} (placed : IsPlaced σ) (order : AreInOrder σ) (k : ℕ) (hk : suc k < length σ.lines) where
  -- the mark of a higher span is not below a lower one
  met_above : (h i j : ℕ) → IsLineOf k h → i ≤ j → j < length (spans_of σ k) → pos 0 ≤ℤ turn (span_at σ k i).a (span_at σ k i).b (mark_at σ h (meets_at σ k h j))
  met_above h i j b le hj =
      let hi : i < length (spans_of σ k) = omega arith in
      let hh = is_line placed k h hk b in
      let m = met placed k h j hk b hj in
      not_below_span placed k h i hk b hi (mark_at σ h (meets_at σ k h j)) (met_point placed k h j hk b hj) (placed.on_line h (meets_at σ k h j) hh m)
      (marks_le placed h (meets_at σ k h i) (meets_at σ k h j) hh (rises_along (length (spans_of σ k)) (meets_at σ k h) (λ n less. meets_rise order k h n b less) i j le hj) m)

  module _ (z : Vector) (hz : IsPoint z) (inside : InSlab (line_at σ k) (line_at σ (suc k)) z) where
    are_over : (i j : ℕ) → i ≤ j → j < length (spans_of σ k) → AreOver (span_at σ k i) (span_at σ k j) (mark_at σ k (meets_at σ k k j)) (mark_at σ (suc k) (meets_at σ k (suc k) j)) z
    are_over i j le hj =
        let h0 : k < length σ.lines = omega arith in
        let a = mark_at σ k (meets_at σ k k j) in
        let b = mark_at σ (suc k) (meets_at σ k (suc k) j) in
        let ha = met_point placed k k j hk (inl refl) hj in
        let hb = met_point placed k (suc k) j hk (inr refl) hj in
        let hl = placed.line_points k h0 in
        let hr = placed.line_points (suc k) hk in
        let ea = placed.on_line k (meets_at σ k k j) h0 (met placed k k j hk (inl refl) hj) in
        let eb = placed.on_line (suc k) (meets_at σ k (suc k) j) hk (met placed k (suc k) j hk (inr refl) hj) in
        let az : LtX a z = order_x.equal_less a (line_at σ k) z ha hl hz ea inside.0 in
        let zb : LtX z b = order_x.less_equal z (line_at σ (suc k)) b hz hr hb inside.1 (sym eb) in
        record {
          first = placed.rightward k i hk (omega arith);
          second = placed.rightward k j hk hj;
          wide = order_x.less a z b ha hz hb az zb;
          after = le_of_lt az;
          before = le_of_lt zb;
          on_left = on_span placed k k j hk (inl refl) hj;
          on_right = on_span placed k (suc k) j hk (inr refl) hj;
          left = met_above k i j (inl refl) le hj;
          right = met_above (suc k) i j (inr refl) le hj;
        }

    pub spans_sink : Sinks (length (spans_of σ k)) (above_span (spans_of σ k) z)
    spans_sink i j lt hj = (
      λ h. over_positive (span_at σ k i) (span_at σ k j) _ _ z (are_over i j (omega arith) hj) h,
      λ h. elim (le_or_lt (pos 0) (turn (span_at σ k j).a (span_at σ k j).b z)) [
        | inl up ↦ absurd (omega (arith, linear, h, over_nonneg (span_at σ k i) (span_at σ k j) _ _ z (are_over i j (omega arith) hj) up))
        | inr below ↦ below
      ],
    )
