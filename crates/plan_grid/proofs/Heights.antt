-- The height of a segment at an x between its ends: the point with these coordinates is on the segment.
use Rattle.std.proofs.Common.{◌≡◌, ℕ, ◌+◌, ◌*◌, ◌≤◌, ℤ, pos, ◌+ℤ◌, ◌-ℤ◌, ◌*ℤ◌, neg_ℤ, ◌≤ℤ◌, ◌<ℤ◌, ◌⊎◌, inl, inr, unsigned_abs, List, [], ◌∷◌, arith}
use Rattle.std.proofs.lemmas.Int.{ints}
use Rattle.plan_exact.specs.Expr.{Expr, var, con, ◌⊕◌, ◌⊖◌, ◌⊗◌, neg}
use Rattle.plan_exact.specs.Formal as F
use Rattle.plan_exact.specs.Sign.{Order, is_less, is_equal, is_greater}
use Rattle.plan_exact.proofs.Laws.{linear}
use Rattle.plan_exact.proofs.Signs.{order_of, signs}
use Rattle.plan_exact.proofs.Sizes.{product_at_most}
use Rattle.plan_exact.proofs.Certificates.{NonNegative, Positive, Zero, le_by, eq_by, lt_from, from_le, from_eq, one, add, multiply, multiple, nonneg_of_zero}
use Rattle.plan_spec.specs.Vector.{spot, LeX, LeY, turn}
use Rattle.plan_spec.specs.Segment.{On}
use Rattle.plan_grid.specs.Fraction.{Fraction, SameValue, height_of, point_at}

-- the way over the whole width, as the sum of those before and after x
pub width_is_positive : (ax bx n d : ℤ) → ax <ℤ bx → pos 0 <ℤ d → pos 0 <ℤ ((n -ℤ ax *ℤ d) +ℤ neg_ℤ (n -ℤ bx *ℤ d))
width_is_positive ax bx n d h k =
    lt_from (ax ∷ bx ∷ n ∷ d ∷ []) (con (pos 1)) ((var 1 ⊖ var 0) ⊗ var 3) (con (pos 0)) ((var 2 ⊖ var 0 ⊗ var 3) ⊕ neg (var 2 ⊖ var 1 ⊗ var 3)) tt (search signs) (search signs)

pub sum_size : (a b : ℤ) → pos 0 ≤ℤ a → pos 0 ≤ℤ b → unsigned_abs (a +ℤ b) ≡ unsigned_abs a + unsigned_abs b
sum_size a b h k = omega (arith, ints)

-- a mean of two numbers of at most 2046 is at most that
pub mean_size : (r s t a v b u : ℕ) → r ≤ s + t → s ≤ a * v → t ≤ b * u → a ≤ 2046 → b ≤ 2046 → r ≤ 2046 * (u + v)
mean_size r s t a v b u h hs ht ha hb = omega (arith, product_at_most a v 2046 v ha (omega arith), product_at_most b u 2046 u hb (omega arith))

-- the way from the left end to x and from x to the right end, and the width, each times the denominator of x
abbrev before : Expr
before = var 4 ⊖ var 0 ⊗ var 5

abbrev after : Expr
after = neg (var 4 ⊖ var 2 ⊗ var 5)

abbrev rise : Expr
rise = var 1 ⊗ after ⊕ var 3 ⊗ before

-- the weighted numbers of the point: x, y and weight
abbrev point : F.Vec
point = record { x = var 4 ⊗ var 7; y = var 6 ⊗ var 5; w = var 5 ⊗ var 7 }

module _ (ax ay bx by : ℤ) (x r : Fraction) (rising : ax <ℤ bx) (from : (ax *ℤ x.den) ≤ℤ x.num) (to : x.num ≤ℤ (bx *ℤ x.den)) (x_positive : pos 0 <ℤ x.den) (r_positive : pos 0 <ℤ r.den) (value : r.num *ℤ ((x.num -ℤ ax *ℤ x.den) +ℤ neg_ℤ (x.num -ℤ bx *ℤ x.den)) ≡ (ay *ℤ neg_ℤ (x.num -ℤ bx *ℤ x.den) +ℤ by *ℤ (x.num -ℤ ax *ℤ x.den)) *ℤ r.den) where
  numbers : List ℤ
  numbers = ax ∷ ay ∷ bx ∷ by ∷ x.num ∷ x.den ∷ r.num ∷ r.den ∷ []

  zero_value : Zero numbers (var 6 ⊗ (before ⊕ after) ⊖ rise ⊗ var 7)
  unfolding numbers
  zero_value = from_eq numbers (var 6 ⊗ (before ⊕ after)) (rise ⊗ var 7) value

  width : Positive numbers (before ⊕ after)
  unfolding numbers
  width = record { positive = width_is_positive ax bx x.num x.den rising x_positive }

  before_left : NonNegative numbers before
  unfolding numbers
  before_left = from_le numbers (var 0 ⊗ var 5) (var 4) from

  after_left : NonNegative numbers (var 2 ⊗ var 5 ⊖ var 4)
  unfolding numbers
  after_left = from_le numbers (var 4) (var 2 ⊗ var 5) to

  x_weight : NonNegative numbers (var 5)
  unfolding numbers
  x_weight = record { nonneg = omega (arith, linear) }

  r_weight : NonNegative numbers (var 7)
  unfolding numbers
  r_weight = record { nonneg = omega (arith, linear) }

  in_line : turn (spot ax ay) (spot bx by) (point_at x r) ≡ pos 0
  unfolding numbers
  in_line = eq_by (one numbers) zero_value (F.det (record { x = var 0; y = var 1; w = con (pos 1) }) (record { x = var 2; y = var 3; w = con (pos 1) }) point) (con (pos 0)) tt

  within_x : LeX (spot ax ay) (point_at x r) × LeX (point_at x r) (spot bx by)
  unfolding numbers
  within_x = (
    le_by (one numbers) (multiply before_left r_weight) (var 0 ⊗ point.w) (point.x ⊗ con (pos 1)) tt,
    le_by (one numbers) (multiply after_left r_weight) (point.x ⊗ con (pos 1)) (var 2 ⊗ point.w) tt,
  )

  within_y : (ay ≤ℤ by) → LeY (spot ax ay) (point_at x r) × LeY (point_at x r) (spot bx by)
  unfolding numbers
  within_y h =
      let up = from_le numbers (var 1) (var 3) h in
      let scale = multiply x_weight r_weight in (
        le_by width (add (nonneg_of_zero (multiple (var 5) zero_value)) (multiply scale (multiply before_left up))) (var 1 ⊗ point.w) (point.y ⊗ con (pos 1)) tt,
        le_by width (add (nonneg_of_zero (multiple (neg (var 5)) zero_value)) (multiply scale (multiply after_left up))) (point.y ⊗ con (pos 1)) (var 3 ⊗ point.w) tt,
      )

  within_y_falling : (by ≤ℤ ay) → LeY (spot bx by) (point_at x r) × LeY (point_at x r) (spot ax ay)
  unfolding numbers
  within_y_falling h =
      let down = from_le numbers (var 3) (var 1) h in
      let scale = multiply x_weight r_weight in (
        le_by width (add (nonneg_of_zero (multiple (var 5) zero_value)) (multiply scale (multiply after_left down))) (var 3 ⊗ point.w) (point.y ⊗ con (pos 1)) tt,
        le_by width (add (nonneg_of_zero (multiple (neg (var 5)) zero_value)) (multiply scale (multiply before_left down))) (point.y ⊗ con (pos 1)) (var 1 ⊗ point.w) tt,
      )

  pub value_is_height : SameValue r (height_of (spot ax ay) (spot bx by) x)
  unfolding numbers
  value_is_height = eq_by (one numbers) zero_value (var 6 ⊗ ((var 2 ⊖ var 0) ⊗ var 5)) ((var 1 ⊗ (var 2 ⊗ var 5 ⊖ var 4) ⊕ var 3 ⊗ before) ⊗ var 7) tt

  pub point_is_on : On (record { a = spot ax ay; b = spot bx by }) (point_at x r)
  point_is_on = record { in_line = in_line; within_x = inl within_x; within_y = by_order (order_of ay by) }
    where
      by_order : Order ay by → (LeY (spot ax ay) (point_at x r) × LeY (point_at x r) (spot bx by)) ⊎ (LeY (spot bx by) (point_at x r) × LeY (point_at x r) (spot ax ay))
      by_order (is_less h) = inl (within_y (omega (arith, linear)))
      by_order (is_equal h) = inl (within_y (omega (arith, linear)))
      by_order (is_greater h) = inr (within_y_falling (omega (arith, linear)))
