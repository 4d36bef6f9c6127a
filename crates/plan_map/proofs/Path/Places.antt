-- Lines, marks and spans by their numbers: what rises, and on which side of a span a point of one of its two lines is, told by the mark in which the span meets the line.
use Rattle.std.proofs.Common.{◌≡◌, ◌⊎◌, inl, inr, ⊎_elim, ℕ, suc, ◌<◌, ◌≤◌, pos, ◌-ℤ◌, ◌*ℤ◌, ◌≤ℤ◌, ◌<ℤ◌, length, sym, subst, arith}
use Rattle.std.proofs.lemmas.Bool.{cases_eq}
use Rattle.plan_exact.proofs.Laws.{linear}
use Rattle.plan_exact.proofs.Signs.{le_of_lt, mul_nonneg, mul_nonneg_nonpos, mul_of_zero, nonneg_of_mul, nonpos_of_mul}
use Rattle.plan_spec.specs.Vector.{Vector, IsPoint, SameX, LeX, LtX, LeY, LtY, turn}
use Rattle.plan_spec.specs.Segment.{Segment}
use Rattle.plan_spec.specs.Slabs.{Slabs, line_at, spans_of, span_at, marks_of, mark_at}
use Rattle.plan_spec.specs.Neighbours.{meets}
use Rattle.plan_plane.proofs.Rising.ByCoordinate.{order_x}
use Rattle.plan_plane.proofs.Segment.Between.{flip}
use Rattle.plan_plane.proofs.Segment.ByX.{leX_trans, leX_ltX, ltX_leX}
use Rattle.plan_slab.specs.Levels.{run}
use Rattle.plan_slab.proofs.Regions.SpanLines.{height, above_line, below_line}
use Rattle.plan_slab.specs.Decomposition.{AreInOrder, IsPlaced}

-- line h is on the left or on the right of slab k
abbrev pub IsLineOf : ℕ → ℕ → Type 0
IsLineOf k h = (h ≡ k) ⊎ (h ≡ suc k)

-- the number of the mark of line h that span i of slab k meets
abbrev pub meets_at : Slabs → ℕ → ℕ → ℕ → ℕ
meets_at σ k h i = meets (span_at σ k i) (marks_of σ h)

-- not below a point of a line, straight above or below it, is not right of the line
not_below_line : (s : Segment) (v z : Vector) → LtX s.a s.b → IsPoint v → turn s.a s.b v ≡ pos 0 → SameX z v → LeY v z → pos 0 ≤ℤ turn s.a s.b z
not_below_line s v z rises hv e same le =
    let r : pos 0 <ℤ run s = omega (arith, linear) in
    let d : pos 0 ≤ℤ (z.y *ℤ v.w -ℤ v.y *ℤ z.w) = omega (arith, linear) in
    nonneg_of_mul hv (omega (arith, linear, height s v z (sym same), mul_nonneg (le_of_lt r) d, mul_of_zero z.w (turn s.a s.b v) e))

pub not_above_line : (s : Segment) (v z : Vector) → LtX s.a s.b → IsPoint v → turn s.a s.b v ≡ pos 0 → SameX z v → LeY z v → turn s.a s.b z ≤ℤ pos 0
not_above_line s v z rises hv e same le =
    let r : pos 0 <ℤ run s = omega (arith, linear) in
    let d : (z.y *ℤ v.w -ℤ v.y *ℤ z.w) ≤ℤ pos 0 = omega (arith, linear) in
    nonpos_of_mul hv (omega (arith, linear, height s v z (sym same), mul_nonneg_nonpos (le_of_lt r) d, mul_of_zero z.w (turn s.a s.b v) e))

-- ---- the order by y
pub leY_ltY : (a b c : Vector) → IsPoint a → IsPoint b → IsPoint c → LeY a b → LtY b c → LtY a c
leY_ltY a b c = leX_ltX (flip a) (flip b) (flip c)

pub ltY_leY : (a b c : Vector) → IsPoint a → IsPoint b → IsPoint c → LtY a b → LeY b c → LtY a c
ltY_leY a b c = ltX_leX (flip a) (flip b) (flip c)

pub leY_trans : (a b c : Vector) → IsPoint a → IsPoint b → IsPoint c → LeY a b → LeY b c → LeY a c
leY_trans a b c = leX_trans (flip a) (flip b) (flip c)

pub meets_rise : {σ : Slabs} → AreInOrder σ → (k h i : ℕ) → IsLineOf k h → suc i < length (spans_of σ k) → meets_at σ k h i ≤ meets_at σ k h (suc i)
meets_rise {σ} order k h i (inl e) hi = subst (λ h. meets_at σ k h i ≤ meets_at σ k h (suc i)) (sym e) (order.on_left_rises k i hi)
meets_rise {σ} order k h i (inr e) hi = subst (λ h. meets_at σ k h i ≤ meets_at σ k h (suc i)) (sym e) (order.on_right_rises k i hi)

module _ {σ : Slabs} (placed : IsPlaced σ) where
  -- ---- lines
  pub is_line : (k h : ℕ) → suc k < length σ.lines → IsLineOf k h → h < length σ.lines
  is_line k h hk b = ⊎_elim (λ e. omega arith) (λ e. omega arith) b

  pub lines_le : (j k : ℕ) → j ≤ k → k < length σ.lines → LeX (line_at σ j) (line_at σ k)
  lines_le j k le hk = elim (cases_eq j k) [
    | inl e ↦ subst (λ k. LeX (line_at σ j) (line_at σ k)) e (omega (arith, linear))
    | inr apart ↦ le_of_lt (placed.lines_rise j k (omega arith) hk)
  ]

  -- a point of one of the two lines of a slab is between them
  pub between_lines : (k h : ℕ) (z : Vector) → suc k < length σ.lines → IsLineOf k h → IsPoint z → SameX z (line_at σ h) → LeX (line_at σ k) z × LeX z (line_at σ (suc k))
  between_lines k h z hk b hz e =
      let hh = is_line k h hk b in
      let h0 : k < length σ.lines = omega arith in
      let ph = placed.line_points h hh in
      let hl : LeX (line_at σ h) z = omega (arith, linear) in
      let lh : LeX z (line_at σ h) = omega (arith, linear) in (
        leX_trans (line_at σ k) (line_at σ h) z (placed.line_points k h0) ph hz (lines_le k h (⊎_elim (λ e. omega arith) (λ e. omega arith) b) hh) hl,
        leX_trans z (line_at σ h) (line_at σ (suc k)) hz ph (placed.line_points (suc k) hk) lh (lines_le h (suc k) (⊎_elim (λ e. omega arith) (λ e. omega arith) b) hk),
      )

  -- ---- marks
  pub marks_le : (h i j : ℕ) → h < length σ.lines → i ≤ j → j < length (marks_of σ h) → LeY (mark_at σ h i) (mark_at σ h j)
  marks_le h i j hh le hj = elim (cases_eq i j) [
    | inl e ↦ subst (λ j. LeY (mark_at σ h i) (mark_at σ h j)) e (omega (arith, linear))
    | inr apart ↦ le_of_lt (placed.marks_rise h i j hh (omega arith) hj)
  ]

  -- a point of the line has the x of its marks
  pub level : (h j : ℕ) (z : Vector) → h < length σ.lines → j < length (marks_of σ h) → IsPoint z → SameX z (line_at σ h) → SameX z (mark_at σ h j)
  level h j z hh hj hz e = order_x.trans z (line_at σ h) (mark_at σ h j) hz (placed.line_points h hh) (placed.mark_points h j hh hj) e (sym (placed.on_line h j hh hj))

  pub one_x : (h i j : ℕ) → h < length σ.lines → i < length (marks_of σ h) → j < length (marks_of σ h) → SameX (mark_at σ h i) (mark_at σ h j)
  one_x h i j hh hi hj = level h j (mark_at σ h i) hh hj (placed.mark_points h i hh hi) (placed.on_line h i hh hi)

  -- ---- the mark that a span meets
  pub met : (k h i : ℕ) → suc k < length σ.lines → IsLineOf k h → i < length (spans_of σ k) → meets_at σ k h i < length (marks_of σ h)
  met k h i hk (inl e) hi = subst (λ h. meets_at σ k h i < length (marks_of σ h)) (sym e) (placed.left_marks k i hk hi)
  met k h i hk (inr e) hi = subst (λ h. meets_at σ k h i < length (marks_of σ h)) (sym e) (placed.right_marks k i hk hi)

  pub on_span : (k h i : ℕ) → suc k < length σ.lines → IsLineOf k h → i < length (spans_of σ k) → turn (span_at σ k i).a (span_at σ k i).b (mark_at σ h (meets_at σ k h i)) ≡ pos 0
  on_span k h i hk (inl e) hi = subst (λ h. turn (span_at σ k i).a (span_at σ k i).b (mark_at σ h (meets_at σ k h i)) ≡ pos 0) (sym e) (placed.left_on_span k i hk hi)
  on_span k h i hk (inr e) hi = subst (λ h. turn (span_at σ k i).a (span_at σ k i).b (mark_at σ h (meets_at σ k h i)) ≡ pos 0) (sym e) (placed.right_on_span k i hk hi)

  pub met_point : (k h i : ℕ) → suc k < length σ.lines → IsLineOf k h → i < length (spans_of σ k) → IsPoint (mark_at σ h (meets_at σ k h i))
  met_point k h i hk b hi = placed.mark_points h (meets_at σ k h i) (is_line k h hk b) (met k h i hk b hi)

  -- ---- a point z of line h, by that mark
  module _ (k h i : ℕ) (hk : suc k < length σ.lines) (b : IsLineOf k h) (hi : i < length (spans_of σ k)) (z : Vector) (hz : IsPoint z) (e : SameX z (line_at σ h)) where
    same_x : SameX z (mark_at σ h (meets_at σ k h i))
    same_x = level h (meets_at σ k h i) z (is_line k h hk b) (met k h i hk b hi) hz e

    pub above_span : LtY (mark_at σ h (meets_at σ k h i)) z → pos 0 <ℤ turn (span_at σ k i).a (span_at σ k i).b z
    above_span = above_line (span_at σ k i) (mark_at σ h (meets_at σ k h i)) z (placed.rightward k i hk hi) (met_point k h i hk b hi) (on_span k h i hk b hi) same_x

    pub below_span : LtY z (mark_at σ h (meets_at σ k h i)) → turn (span_at σ k i).a (span_at σ k i).b z <ℤ pos 0
    below_span = below_line (span_at σ k i) (mark_at σ h (meets_at σ k h i)) z (placed.rightward k i hk hi) (met_point k h i hk b hi) (on_span k h i hk b hi) same_x

    pub not_below_span : LeY (mark_at σ h (meets_at σ k h i)) z → pos 0 ≤ℤ turn (span_at σ k i).a (span_at σ k i).b z
    not_below_span = not_below_line (span_at σ k i) (mark_at σ h (meets_at σ k h i)) z (placed.rightward k i hk hi) (met_point k h i hk b hi) (on_span k h i hk b hi) same_x

    pub not_above_span : LeY z (mark_at σ h (meets_at σ k h i)) → turn (span_at σ k i).a (span_at σ k i).b z ≤ℤ pos 0
    not_above_span = not_above_line (span_at σ k i) (mark_at σ h (meets_at σ k h i)) z (placed.rightward k i hk hi) (met_point k h i hk b hi) (on_span k h i hk b hi) same_x

    -- strictly between marks j and j + 1
    pub above_from : (j : ℕ) → suc j < length (marks_of σ h) → LtY (mark_at σ h j) z → meets_at σ k h i ≤ j → pos 0 <ℤ turn (span_at σ k i).a (span_at σ k i).b z
    above_from j hj up le =
        let hh = is_line k h hk b in
        let h0 : j < length (marks_of σ h) = omega (arith, hj) in
        above_span (leY_ltY (mark_at σ h (meets_at σ k h i)) (mark_at σ h j) z (met_point k h i hk b hi) (placed.mark_points h j hh h0) hz (marks_le h (meets_at σ k h i) j hh le h0) up)

    pub below_from : (j : ℕ) → suc j < length (marks_of σ h) → LtY z (mark_at σ h (suc j)) → j < meets_at σ k h i → turn (span_at σ k i).a (span_at σ k i).b z <ℤ pos 0
    below_from j hj down less =
        let hh = is_line k h hk b in
        below_span (ltY_leY z (mark_at σ h (suc j)) (mark_at σ h (meets_at σ k h i)) hz (placed.mark_points h (suc j) hh hj) (met_point k h i hk b hi) down (marks_le h (suc j) (meets_at σ k h i) hh (omega (arith, less)) (met k h i hk b hi)))
