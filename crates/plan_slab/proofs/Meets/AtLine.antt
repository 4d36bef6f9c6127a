-- A span meets a line of its slab in one mark, since its piece has a point there: marks below that one are below the span.
use Rattle.std.proofs.Common.{◌≡◌, inr, ℕ, zero, suc, ◌<◌, pos, ◌-ℤ◌, ◌*ℤ◌, ◌≤ℤ◌, ◌<ℤ◌, Bool, true, false, cond, int_lt, List, [], ◌∷◌, length, get_or, Contains, refl, sym, ap, ◌∙◌, subst, arith}
use Rattle.std.proofs.lemmas.Int.{ints}
use Rattle.plan_exact.proofs.Laws.{linear, mul_comm}
use Rattle.plan_exact.proofs.Signs.{mul_pos, mul_of_zero, zero_of_mul, neg_of_mul, mul_nonneg_nonpos, le_of_lt}
use Rattle.plan_spec.specs.Vector.{Vector, IsPoint, LeX, LtY, SameX, Same, turn}
use Rattle.plan_spec.specs.Segment.{Segment}
use Rattle.plan_spec.specs.Pieces.{Piece}
use Rattle.plan_spec.specs.Slabs.{nowhere, IsMark, AreMarks}
use Rattle.plan_spec.specs.Regions.{foot}
use Rattle.plan_plane.proofs.Rising.ByCoordinate.{order_x}
use Rattle.plan_plane.proofs.Segment.ByX.{leX_trans}
use Rattle.plan_plane.proofs.Segment.Same.{turn_same}
use Rattle.plan_slab.specs.Levels.{run}
use Rattle.plan_spec.specs.Neighbours.{meets}
use Rattle.plan_slab.specs.Meets.{MeetsMark}
use Rattle.plan_slab.proofs.ByNumber.{at_number}
use Rattle.plan_slab.proofs.Order.Across.{IsSlab}
use Rattle.plan_slab.proofs.Order.Feet.{foot_point, foot_same_x, foot_in_line}
use Rattle.plan_slab.proofs.Regions.SpanLines.{height}
use Rattle.plan_slab.proofs.Order.OneOrder.{IsStrand, run_pos, piece_rises, on_strand}

-- ---- the number
meets_is : (s : Segment) (ms : List Vector) (j : ℕ) → j < length ms → turn s.a s.b (get_or ms j nowhere) ≡ pos 0 → ((i : ℕ) → i < j → turn s.a s.b (get_or ms i nowhere) <ℤ pos 0) → meets s ms ≡ j
meets_is s [] j within e low = absurd (omega arith)
meets_is s (m ∷ ms) zero within e low = by (int_lt (turn s.a s.b m) (pos 0)) refl
  where
    by : (t : Bool) → int_lt (turn s.a s.b m) (pos 0) ≡ t → cond t (suc (meets s ms)) 0 ≡ 0
    by true p = absurd (omega (arith, ints, linear, p, e))
    by false p = refl
meets_is s (m ∷ ms) (suc j) within e low = by (int_lt (turn s.a s.b m) (pos 0)) refl (meets_is s ms j (omega arith) e (λ i less. low (suc i) (omega arith)))
  where
    by : (t : Bool) → int_lt (turn s.a s.b m) (pos 0) ≡ t → meets s ms ≡ j → cond t (suc (meets s ms)) 0 ≡ suc j
    by true p same = ap suc same
    by false p same = absurd (omega (arith, ints, p, low 0 (omega arith)))

-- ---- straight below a point that is not above the line is strictly below it
pub lower : (s : Segment) (u z : Vector) → pos 0 <ℤ run s → IsPoint u → IsPoint z → SameX u z → LtY u z → turn s.a s.b z ≤ℤ pos 0 → turn s.a s.b u <ℤ pos 0
lower s u z runs hu hz same lt h =
    let d : pos 0 <ℤ (z.y *ℤ u.w -ℤ u.y *ℤ z.w) = omega (arith, linear) in
    neg_of_mul hz (omega (arith, linear, height s u z same, mul_pos runs d, mul_nonneg_nonpos (le_of_lt hu) h))

-- ---- a span and the marks of a line of its slab
pub record MarkOf (s : Segment) (ms : List Vector) : Type 0 where
  pub number : ℕ
  pub within : number < length ms
  pub on : turn s.a s.b (get_or ms number nowhere) ≡ pos 0

module _ {pieces : List Piece} {l r u : Vector} {ms : List Vector} {s : Segment} {p : Piece} (slab : IsSlab l r) (strand : IsStrand l r s p) (hu : IsPoint u) (marks : AreMarks pieces u ms) where
  pub foot_mark : Contains pieces p → LeX l u → LeX u r → MarkOf s ms
  foot_mark (k, within, is) lu ur =
      let v = foot s u in
      let hv = foot_point s u (run_pos strand) hu in
      let e = foot_same_x s u in
      let uv : LeX u v = omega (arith, linear) in
      let vu : LeX v u = omega (arith, linear) in
      let on = on_strand slab strand v hv (leX_trans l u v slab.left_point hu hv lu uv) (leX_trans v u r hv hu slab.right_point vu ur) (foot_in_line s u) in
      let mark : IsMark v p = inr (inr (piece_rises p slab strand.points strand.reaches, on)) in
      let (j, below, same) = at_number (Same v) ms nowhere ((marks.exact v hv (sym e)).0 (k, p, within, is, mark)) in
      let m = get_or ms j nowhere in
      record { number = j; within = below; on = zero_of_mul v.w (turn s.a s.b m) hv (mul_comm v.w (turn s.a s.b m) ∙ sym (turn_same s.a s.b v m same) ∙ mul_comm (turn s.a s.b v) m.w ∙ mul_of_zero m.w (turn s.a s.b v) (foot_in_line s u)) }

  -- marks below one that is not above the span are below the span
  pub marks_below : (i j : ℕ) → i < j → j < length ms → turn s.a s.b (get_or ms j nowhere) ≤ℤ pos 0 → turn s.a s.b (get_or ms i nowhere) <ℤ pos 0
  marks_below i j less within h =
      let a = get_or ms i nowhere in
      let b = get_or ms j nowhere in
      let ha = marks.points i nowhere (omega arith) in
      let hb = marks.points j nowhere within in
      lower s a b (run_pos strand) ha hb (order_x.trans a u b ha hu hb (sym (marks.on_line i nowhere (omega arith))) (marks.on_line j nowhere within)) (marks.rising i j nowhere less within) h

  number_is : (f : MarkOf s ms) → meets s ms ≡ f.number
  number_is f = meets_is s ms f.number f.within f.on (λ i less. marks_below i f.number less f.within (omega (arith, linear, f.on)))

  pub meets_mark : MarkOf s ms → MeetsMark s ms
  meets_mark f =
      let e = number_is f in
      record { within = subst (λ n. n < length ms) (sym e) f.within; on = subst (λ n. turn s.a s.b (get_or ms n nowhere) ≡ pos 0) (sym e) f.on }
