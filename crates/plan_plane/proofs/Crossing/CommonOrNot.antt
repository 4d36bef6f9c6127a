-- Whether two segments have a common point is decided: by the sides on which the ends of each lie of the other's line, and on one line by the order of the ends. The common point is given by formula.
use Rattle.std.proofs.Common.{◌≡◌, ◌⊎◌, inl, inr, ℤ, pos, ◌+ℤ◌, ◌*ℤ◌, neg_ℤ, ◌≤ℤ◌, ◌<ℤ◌, Bool, true, false, refl, ap, subst, ◌∙◌, arith}
use Rattle.std.proofs.lemmas.Bool.{false≢true}
use Rattle.plan_exact.specs.Sign.{Sign, is_negative, is_zero, is_positive, Order, is_less, is_equal, is_greater}
use Rattle.plan_exact.specs.Vectors.{cross}
use Rattle.plan_exact.proofs.Laws.{linear, mul_comm}
use Rattle.plan_exact.proofs.Signs.{sign_of, order_of, mul_nonneg, mul_nonpos_nonneg, zero_of_mul, le_of_lt, neg_nonneg, le_or_ge, le_or_lt}
use Rattle.plan_exact.proofs.Vectors.{det_swapped}
use Rattle.plan_spec.specs.Vector.{Vector, IsPoint, Same, SameX, LeX, LtX, turn, same}
use Rattle.plan_spec.specs.Segment.{Segment, On, segment, Common, HasPoints}
use Rattle.plan_plane.proofs.Segment.Decided.{Decided, decided_by, on_decided}
use Rattle.plan_plane.proofs.Segment.Line.{on_line}
use Rattle.plan_plane.proofs.Segment.ByX.{leX_trans, leX_ltX, between_one}
use Rattle.plan_plane.proofs.Segment.Between.{between, on, between_x, between_first, pos_at, neg_at, flip, turn_flipped}
use Rattle.plan_plane.proofs.Segment.Same.{Same-swapped, on_same, same_true, same_from}
use Rattle.plan_plane.proofs.Crossing.Sides.{Agree, common_by_sides, two_ways}
use Rattle.plan_plane.proofs.Segment.Reversed.{on_flipped, common_flipped, common_first, common_last}

-- ---- the ends, and the segments, in the other order
abbrev Answer : Vector → Vector → Vector → Vector → Type 0
Answer a b p q = Decided (Common (segment a b) (segment p q))

first_reversed : (a b p q : Vector) → Answer b a p q → Answer a b p q
first_reversed a b p q h = decided_by (common_first a b) (common_first b a) h

last_reversed : (a b p q : Vector) → Answer a b q p → Answer a b p q
last_reversed a b p q h = decided_by (common_last p q) (common_last q p) h

axes_changed : (a b p q : Vector) → Answer (flip a) (flip b) (flip p) (flip q) → Answer a b p q
axes_changed a b p q h =
    decided_by (λ m. (flip m.0, m.1, on_flipped (flip a) (flip b) m.0 m.2, on_flipped (flip p) (flip q) m.0 m.3))
    (λ m. (flip m.0, m.1, on_flipped a b m.0 m.2, on_flipped p q m.0 m.3)) h

-- ---- both ends strictly on one side of the other's line: no common point
agree_apart : (a b p q : Vector) → IsPoint p → IsPoint q → Agree (turn a b p) (turn a b q) → ¬ (Common (segment a b) (segment p q))
agree_apart a b p q hp hq (inl h) m = omega (arith, linear, m.2.in_line, pos_at m.1 (between p q m.0 hp hq m.1 m.3) (cross a b) h.0 h.1)
agree_apart a b p q hp hq (inr h) m = omega (arith, linear, m.2.in_line, neg_at m.1 (between p q m.0 hp hq m.1 m.3) (cross a b) h.0 h.1)

-- ---- on one line that is not vertical: by the order of the ends
within_ends : (p q z : Vector) → IsPoint p → IsPoint q → IsPoint z → LeX p q → On (segment p q) z → LeX p z × LeX z q
within_ends p q z hp hq hz onward h = by h.within_x
  where
    by : (LeX p z × LeX z q) ⊎ (LeX q z × LeX z p) → LeX p z × LeX z q
    by (inl w) = w
    by (inr w) = (leX_trans p q z hp hq hz onward w.0, leX_trans z p q hz hp hq w.1 onward)

-- a segment that ends left of where another begins
left_of : (a b p q : Vector) → IsPoint a → IsPoint b → IsPoint p → IsPoint q → LeX a b → LeX p q → LtX b p → ¬ (Common (segment a b) (segment p q))
left_of a b p q ha hb hp hq ab pq bp m =
    let zb = (within_ends a b m.0 ha hb m.1 ab m.2).1 in
    let pz = (within_ends p q m.0 hp hq m.1 pq m.3).0 in
    omega (arith, linear, leX_ltX m.0 b p m.1 hb hp zb bp)

-- a b from left to right, and p q too
in_line_onward : (a b p q : Vector) → IsPoint a → IsPoint b → IsPoint p → IsPoint q → LtX a b → LeX p q → turn a b p ≡ pos 0 → turn a b q ≡ pos 0 → Answer a b p q
in_line_onward a b p q ha hb hp hq ab pq ep eq = by (le_or_lt (p.x *ℤ b.w) (b.x *ℤ p.w)) (le_or_lt (a.x *ℤ q.w) (q.x *ℤ a.w)) (le_or_ge (a.x *ℤ p.w) (p.x *ℤ a.w))
  where
    by : LeX p b ⊎ LtX b p → LeX a q ⊎ LtX q a → LeX a p ⊎ LeX p a → Answer a b p q
    by (inr bp) s t = inr (left_of a b p q ha hb hp hq (le_of_lt ab) pq bp)
    by (inl pb) (inr qa) t = inr (λ m. left_of p q a b hp hq ha hb pq (le_of_lt ab) qa (common_flipped m))
    by (inl pb) (inl aq) (inl ap) = inl (p, hp, on (between_x a b p ab ap pb ep), on (between_first p q hp))
    by (inl pb) (inl aq) (inr pa) = inl (a, ha, on (between_first a b ha), on_line a b p q a ab ep eq (on (between_first a b ha)).in_line pa aq)

in_line_rightward : (a b p q : Vector) → IsPoint a → IsPoint b → IsPoint p → IsPoint q → LtX a b → turn a b p ≡ pos 0 → turn a b q ≡ pos 0 → Answer a b p q
in_line_rightward a b p q ha hb hp hq ab ep eq = by (le_or_ge (p.x *ℤ q.w) (q.x *ℤ p.w))
  where
    by : LeX p q ⊎ LeX q p → Answer a b p q
    by (inl h) = in_line_onward a b p q ha hb hp hq ab h ep eq
    by (inr h) = last_reversed a b p q (in_line_onward a b q p ha hb hq hp ab h eq ep)

in_line_sloped : (a b p q : Vector) → IsPoint a → IsPoint b → IsPoint p → IsPoint q → turn a b p ≡ pos 0 → turn a b q ≡ pos 0 → (SameX a b → Answer a b p q) → Answer a b p q
in_line_sloped a b p q ha hb hp hq ep eq vertical = by (order_of (a.x *ℤ b.w) (b.x *ℤ a.w))
  where
    by : Order (a.x *ℤ b.w) (b.x *ℤ a.w) → Answer a b p q
    by (is_less h) = in_line_rightward a b p q ha hb hp hq h ep eq
    by (is_equal e) = vertical e
    by (is_greater h) =
        let fp : turn b a p ≡ pos 0 = omega (arith, linear, det_swapped b a p) in
        let fq : turn b a q ≡ pos 0 = omega (arith, linear, det_swapped b a q) in
        first_reversed a b p q (in_line_rightward b a p q hb ha hp hq h fp fq)

in_line : (a b p q : Vector) → IsPoint a → IsPoint b → IsPoint p → IsPoint q → ¬ (Same a b) → turn a b p ≡ pos 0 → turn a b q ≡ pos 0 → Answer a b p q
in_line a b p q ha hb hp hq different ep eq =
    let fp : turn (flip a) (flip b) (flip p) ≡ pos 0 = turn_flipped a b p ∙ ap neg_ℤ ep in
    let fq : turn (flip a) (flip b) (flip q) ≡ pos 0 = turn_flipped a b q ∙ ap neg_ℤ eq in
    in_line_sloped a b p q ha hb hp hq ep eq (λ ex. axes_changed a b p q (in_line_sloped (flip a) (flip b) (flip p) (flip q) ha hb hp hq fp fq (λ ey. absurd (different (ex, ey)))))

-- ---- a segment of one point
one_point : (a b p q : Vector) → IsPoint a → IsPoint b → IsPoint p → IsPoint q → Same a b → Answer a b p q
one_point a b p q ha hb hp hq e =
    decided_by (λ h. (a, ha, on (between_first a b ha), h)) (λ m. on_same p q m.0 a hp hq m.1 ha (Same-swapped a m.0 (same_as_end m.0 m.1 m.2)) m.3) (on_decided (segment p q) a)
  where
    same_as_end : (z : Vector) → IsPoint z → On (segment a b) z → Same a z
    same_as_end z hz h = (between_one a b z ha hb hz e.0 h.within_x, between_one (flip a) (flip b) (flip z) ha hb hz e.1 h.within_y)

-- ---- two lines
-- x and y are not strictly of one sign: they rise, or they fall
data SignPair (x y : ℤ) : Type 0 where
  agree : Agree x y → SignPair x y
  up : x ≤ℤ pos 0 → pos 0 ≤ℤ y → SignPair x y
  down : pos 0 ≤ℤ x → y ≤ℤ pos 0 → SignPair x y

pair_of : (x y : ℤ) → SignPair x y
pair_of x y = by (sign_of x) (sign_of y)
  where
    by : Sign x → Sign y → SignPair x y
    by (is_positive h) (is_positive k) = agree (inl (h, k))
    by (is_negative h) (is_negative k) = agree (inr (h, k))
    by (is_positive h) (is_negative k) = down (le_of_lt h) (le_of_lt k)
    by (is_negative h) (is_positive k) = up (le_of_lt h) (le_of_lt k)
    by (is_zero e) (is_positive k) = up (omega (arith, linear)) (le_of_lt k)
    by (is_zero e) (is_negative k) = down (omega (arith, linear)) (le_of_lt k)
    by (is_zero e) (is_zero f) = up (omega (arith, linear)) (omega (arith, linear))
    by (is_positive h) (is_zero f) = down (le_of_lt h) (omega (arith, linear))
    by (is_negative h) (is_zero f) = up (le_of_lt h) (omega (arith, linear))

-- a combination of two positive numbers, with weights that are not negative, is 0 only if both weights are
no_weight : (i j p q : ℤ) → pos 0 ≤ℤ i → pos 0 ≤ℤ j → pos 0 <ℤ p → pos 0 <ℤ q → i *ℤ p +ℤ j *ℤ q ≡ pos 0 → (i ≡ pos 0) × (j ≡ pos 0)
no_weight i j p q hi hj hp hq e = (
  zero_of_mul p i hp (mul_comm p i ∙ omega (arith, linear, mul_nonneg hi (le_of_lt hp), mul_nonneg hj (le_of_lt hq))),
  zero_of_mul q j hq (mul_comm q j ∙ omega (arith, linear, mul_nonneg hi (le_of_lt hp), mul_nonneg hj (le_of_lt hq))),
)

-- p on the right of a b, or on it, and q on the left of it, or on it
upward : (a b p q : Vector) → IsPoint a → IsPoint b → IsPoint p → IsPoint q → ¬ (Same a b) → turn a b p ≤ℤ pos 0 → pos 0 ≤ℤ turn a b q → Answer a b p q
upward a b p q ha hb hp hq different h k = by (sign_of (turn a b q *ℤ p.w +ℤ neg_ℤ (turn a b p) *ℤ q.w)) (pair_of (turn p q a) (turn p q b))
  where
    same_weight : turn a b q *ℤ p.w +ℤ neg_ℤ (turn a b p) *ℤ q.w ≡ neg_ℤ (turn p q b) *ℤ a.w +ℤ turn p q a *ℤ b.w
    same_weight = ap (λ v. v.w) (two_ways a b p q)

    by : Sign (turn a b q *ℤ p.w +ℤ neg_ℤ (turn a b p) *ℤ q.w) → SignPair (turn p q a) (turn p q b) → Answer a b p q
    by (is_negative n) t = absurd (omega (arith, linear, mul_nonneg k (le_of_lt hp), mul_nonneg (neg_nonneg h) (le_of_lt hq)))
    by (is_zero e) t =
        let none = no_weight (turn a b q) (neg_ℤ (turn a b p)) p.w q.w k (neg_nonneg h) hp hq e in
        in_line a b p q ha hb hp hq different (omega (arith, linear, none.1)) none.0
    by (is_positive w) (agree g) = inr (λ m. agree_apart p q a b ha hb g (common_flipped m))
    by (is_positive w) (down i j) = inl (common_by_sides a b p q h k i j (subst (λ n. pos 0 <ℤ n) same_weight w))
    by (is_positive w) (up i j) =
        let l : neg_ℤ (turn p q b) ≤ℤ pos 0 = omega (arith, linear) in
        absurd (omega (arith, linear, same_weight, mul_nonpos_nonneg l (le_of_lt ha), mul_nonpos_nonneg i (le_of_lt hb)))

apart_or_crossing : (a b p q : Vector) → IsPoint a → IsPoint b → IsPoint p → IsPoint q → ¬ (Same a b) → SignPair (turn a b p) (turn a b q) → Answer a b p q
apart_or_crossing a b p q ha hb hp hq different (agree g) = inr (agree_apart a b p q hp hq g)
apart_or_crossing a b p q ha hb hp hq different (up h k) = upward a b p q ha hb hp hq different h k
apart_or_crossing a b p q ha hb hp hq different (down h k) = last_reversed a b p q (upward a b q p ha hb hq hp different k h)

pub common_or_not : (s t : Segment) → HasPoints s → HasPoints t → Common s t ⊎ (¬ (Common s t))
common_or_not s t hs ht = by (same s.a s.b) (same_true s.a s.b) (same_from s.a s.b)
  where
    by : (b : Bool) → (b ≡ true → Same s.a s.b) → (Same s.a s.b → b ≡ true) → Answer s.a s.b t.a t.b
    by true f g = one_point s.a s.b t.a t.b hs.0 hs.1 ht.0 ht.1 (f refl)
    by false f g =
        let different : ¬ (Same s.a s.b) = λ e. false≢true (g e) in
        apart_or_crossing s.a s.b t.a t.b hs.0 hs.1 ht.0 ht.1 different (pair_of (turn s.a s.b t.a) (turn s.a s.b t.b))
