-- A segment that misses the way from p to q stands over one of the two, and not over the other, exactly where one of its ends, and not the other, is counted: above the way, right of p and not right of q. Each place of its two ends among p and q is a case of the two segments, or empty.
use Rattle.std.proofs.Common.{◌≡◌, inl, inr, ℤ, pos, ◌*ℤ◌, neg_ℤ, Bool, int_lt, refl, sym, ap, ap₂, ◌∙◌, arith}
use Rattle.std.proofs.lemmas.Int.{ints}
use Rattle.std.proofs.Math.Bool.{or_comm}
use Rattle.plan_exact.specs.Sign.{Order, is_less, is_equal, is_greater}
use Rattle.plan_exact.proofs.Laws.{linear}
use Rattle.plan_exact.proofs.Signs.{order_of, le_of_lt}
use Rattle.plan_exact.proofs.Vectors.{det_swapped}
use Rattle.plan_spec.specs.Vector.{Vector, IsPoint, LeX, LtX, turn}
use Rattle.plan_spec.specs.Segment.{Segment, segment, HasPoints, Common}
use Rattle.plan_spec.specs.Parity.{over_from, over, xor, counted}
use Rattle.plan_plane.proofs.Segment.Reversed.{common_flipped, common_last}
use Rattle.plan_plane.proofs.Segment.ByX.{leX_trans, ltX_leX, leX_ltX}
use Rattle.plan_cross.proofs.ParityLaw.Xor.{xor_false, xor_comm, cancelled}
use Rattle.plan_plane.proofs.Crossing.Sides.{Agree, same_side, overlap_side}
use Rattle.plan_exact.proofs.Tests.{lt_true, lt_false}
use Rattle.plan_cross.proofs.ParityLaw.Tests.{over_right_of_a, over_past_both, over_before_both, counted_among, counted_before, counted_beyond}

-- ---- the three places of an end
data Place (p q e : Vector) : Type 0 where
  before : LeX e p → Place p q e
  among : LtX p e → LeX e q → Place p q e
  beyond : LtX p e → LtX q e → Place p q e

place_of : (p q e : Vector) → Place p q e
place_of p q e = by (order_of (p.x *ℤ e.w) (e.x *ℤ p.w)) (order_of (q.x *ℤ e.w) (e.x *ℤ q.w))
  where
    by : Order (p.x *ℤ e.w) (e.x *ℤ p.w) → Order (q.x *ℤ e.w) (e.x *ℤ q.w) → Place p q e
    by (is_greater h) k = before (omega (arith, linear))
    by (is_equal h) k = before (omega (arith, linear))
    by (is_less h) (is_less k) = beyond h k
    by (is_less h) (is_equal k) = among h (omega (arith, linear))
    by (is_less h) (is_greater k) = among h (omega (arith, linear))

-- ---- tests of numbers of one sign
both_positive : {x y : ℤ} → Agree x y → int_lt (pos 0) x ≡ int_lt (pos 0) y
both_positive (inl h) = lt_true h.0 ∙ sym (lt_true h.1)
both_positive (inr h) = lt_false (le_of_lt h.0) ∙ sym (lt_false (le_of_lt h.1))

both_negative : {x y : ℤ} → Agree x y → int_lt x (pos 0) ≡ int_lt y (pos 0)
both_negative (inr h) = lt_true h.0 ∙ sym (lt_true h.1)
both_negative (inl h) = lt_false (le_of_lt h.0) ∙ sym (lt_false (le_of_lt h.1))

negative_is_positive : (a b c : Vector) → int_lt (turn a b c) (pos 0) ≡ int_lt (pos 0) (turn b a c)
negative_is_positive a b c = shown (turn a b c) (turn b a c) (det_swapped a b c)
  where
    shown : (x y : ℤ) → x ≡ neg_ℤ y → int_lt x (pos 0) ≡ int_lt (pos 0) y
    shown x y e = grind (arith, ints)

-- ---- the step
abbrev Step : Vector → Vector → Vector → Vector → Type 0
Step p q a b = xor (over (segment a b) p) (over (segment a b) q) ≡ xor (counted p q a) (counted p q b)

joined : {x y u v x' y' u' v' : Bool} → x ≡ x' → y ≡ y' → u ≡ u' → v ≡ v' → xor x' y' ≡ xor u' v' → xor x y ≡ xor u v
joined e f g h k = ap₂ xor e f ∙ k ∙ sym (ap₂ xor g h)

pub over_reversed : (a b z : Vector) → over (segment a b) z ≡ over (segment b a) z
over_reversed a b z = or_comm (over_from a b z) (over_from b a z)

step_reversed : (p q a b : Vector) → Step p q b a → Step p q a b
step_reversed p q a b h = ap₂ xor (over_reversed a b p) (over_reversed a b q) ∙ h ∙ xor_comm (counted p q b) (counted p q a)

-- what every case has: four points, p not right of q, and the segment off the way
record Way (p q a b : Vector) : Type 0 where
  point_p : IsPoint p
  point_q : IsPoint q
  point_a : IsPoint a
  point_b : IsPoint b
  onward : LeX p q
  apart : ¬ (Common (segment p q) (segment a b))

way_reversed : {p q a b : Vector} → Way p q a b → Way p q b a
way_reversed {p} {q} {a} {b} w = record {
  point_p = w.point_p;
  point_q = w.point_q;
  point_a = w.point_b;
  point_b = w.point_a;
  onward = w.onward;
  apart = λ m. w.apart (common_last a b m);
}

apart_flipped : {p q a b : Vector} → Way p q a b → ¬ (Common (segment a b) (segment p q))
apart_flipped w m = w.apart (common_flipped m)

before_among : (p q a b : Vector) → Way p q a b → LeX a p → LtX p b → LeX b q → Step p q a b
before_among p q a b w ap pb bq =
    let aq = leX_trans a p q w.point_a w.point_p w.point_q ap w.onward in
    let ab = leX_ltX a p b w.point_a w.point_p w.point_b ap pb in
    let pq = ltX_leX p b q w.point_p w.point_b w.point_q pb bq in
    let agree = overlap_side a b p q w.point_a w.point_b w.point_p ab pq ap (le_of_lt pb) bq (apart_flipped w) in
    joined (over_right_of_a a b p ap pb) (over_past_both a b q aq bq) (counted_before p q a ap) (counted_among p q b pb bq)
    (xor_false _ ∙ negative_is_positive a b p ∙ both_positive agree)

before_beyond : (p q a b : Vector) → Way p q a b → LeX a p → LtX p b → LtX q b → Step p q a b
before_beyond p q a b w ap pb qb =
    let aq = leX_trans a p q w.point_a w.point_p w.point_q ap w.onward in
    let ab = leX_ltX a p b w.point_a w.point_p w.point_b ap pb in
    let agree = same_side a b p q w.point_p w.point_q ab ap (le_of_lt pb) aq (le_of_lt qb) w.apart in
    joined (over_right_of_a a b p ap pb) (over_right_of_a a b q aq qb) (counted_before p q a ap) (counted_beyond p q b pb qb)
    (cancelled (both_negative agree))

among_among : (p q a b : Vector) → Way p q a b → LtX p a → LeX a q → LtX p b → LeX b q → Step p q a b
among_among p q a b w pa aq pb bq =
    let pq = ltX_leX p a q w.point_p w.point_a w.point_q pa aq in
    let agree = same_side p q a b w.point_a w.point_b pq (le_of_lt pa) aq (le_of_lt pb) bq (apart_flipped w) in
    joined (over_before_both a b p pa pb) (over_past_both a b q aq bq) (counted_among p q a pa aq) (counted_among p q b pb bq)
    (sym (cancelled (both_positive agree)))

among_beyond : (p q a b : Vector) → Way p q a b → LtX p a → LeX a q → LtX p b → LtX q b → Step p q a b
among_beyond p q a b w pa aq pb qb =
    let pq = ltX_leX p a q w.point_p w.point_a w.point_q pa aq in
    let ab = leX_ltX a q b w.point_a w.point_q w.point_b aq qb in
    let agree = overlap_side p q a b w.point_p w.point_q w.point_a pq ab (le_of_lt pa) aq (le_of_lt qb) w.apart in
    joined (over_before_both a b p pa pb) (over_right_of_a a b q aq qb) (counted_among p q a pa aq) (counted_beyond p q b pb qb)
    (sym (both_negative agree) ∙ negative_is_positive q p a ∙ sym (xor_false _))

step_by_places : (p q a b : Vector) → Way p q a b → Place p q a → Place p q b → Step p q a b
step_by_places p q a b w (before ap) (before bp) =
    let aq = leX_trans a p q w.point_a w.point_p w.point_q ap w.onward in
    let bq = leX_trans b p q w.point_b w.point_p w.point_q bp w.onward in
    joined (over_past_both a b p ap bp) (over_past_both a b q aq bq) (counted_before p q a ap) (counted_before p q b bp) refl
step_by_places p q a b w (before ap) (among pb bq) = before_among p q a b w ap pb bq
step_by_places p q a b w (before ap) (beyond pb qb) = before_beyond p q a b w ap pb qb
step_by_places p q a b w (among pa aq) (before bp) = step_reversed p q a b (before_among p q b a (way_reversed w) bp pa aq)
step_by_places p q a b w (among pa aq) (among pb bq) = among_among p q a b w pa aq pb bq
step_by_places p q a b w (among pa aq) (beyond pb qb) = among_beyond p q a b w pa aq pb qb
step_by_places p q a b w (beyond pa qa) (before bp) = step_reversed p q a b (before_beyond p q b a (way_reversed w) bp pa qa)
step_by_places p q a b w (beyond pa qa) (among pb bq) = step_reversed p q a b (among_beyond p q b a (way_reversed w) pb bq pa qa)
step_by_places p q a b w (beyond pa qa) (beyond pb qb) =
    joined (over_before_both a b p pa pb) (over_before_both a b q qa qb) (counted_beyond p q a pa qa) (counted_beyond p q b pb qb) refl

pub parity_step : (s : Segment) (p q : Vector) → HasPoints s → IsPoint p → IsPoint q → LeX p q → ¬ (Common (segment p q) s) → xor (over s p) (over s q) ≡ xor (counted p q s.a) (counted p q s.b)
parity_step s p q h hp hq onward apart =
    step_by_places p q s.a s.b (record { point_p = hp; point_q = hq; point_a = h.0; point_b = h.1; onward = onward; apart = apart }) (place_of p q s.a) (place_of p q s.b)
