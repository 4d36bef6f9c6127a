-- Of three points in line one is between the two others: the one whose x is the middle one, or whose y is, where x tells nothing.
use Rattle.std.proofs.Common.{◌≡◌, ◌⊎◌, inl, inr, pos, ◌*ℤ◌, arith}
use Rattle.plan_exact.specs.Sign.{Order, is_less, is_equal, is_greater}
use Rattle.plan_exact.proofs.Fractions.{le_trans, lt_le_trans}
use Rattle.plan_exact.proofs.Laws.{linear}
use Rattle.plan_exact.proofs.Signs.{order_of, le_of_lt, le_or_lt}
use Rattle.plan_exact.proofs.Vectors.{det_turned, det_swapped, det_swapped_right}
use Rattle.plan_spec.specs.Vector.{Vector, IsPoint, LeX, LtX, SameX, turn}
use Rattle.plan_plane.proofs.Segment.Between.{Between, between_x, between_same, swapped, flip, flipped, turn_flipped}

pub data Middle (p q y : Vector) : Type 0 where
  first : Between q y p → Middle p q y
  second : Between p y q → Middle p q y
  third : Between p q y → Middle p q y

middle_swapped : {p q y : Vector} → Middle q p y → Middle p q y
middle_swapped (first b) = second b
middle_swapped (second b) = first b
middle_swapped (third b) = third (swapped b)

middle_flipped : {p q y : Vector} → Middle (flip p) (flip q) (flip y) → Middle p q y
middle_flipped (first b) = first (flipped b)
middle_flipped (second b) = second (flipped b)
middle_flipped (third b) = third (flipped b)

rightward : (p q y : Vector) → IsPoint p → IsPoint q → IsPoint y → turn p q y ≡ pos 0 → LtX p q → Middle p q y
rightward p q y hp hq hy e pq = by (le_or_lt (p.x *ℤ y.w) (y.x *ℤ p.w)) (le_or_lt (y.x *ℤ q.w) (q.x *ℤ y.w))
  where
    by : LeX p y ⊎ LtX y p → LeX y q ⊎ LtX q y → Middle p q y
    by (inr yp) t = first (swapped (between_x y q p (lt_le_trans y.x y.w p.x p.w q.x q.w hy hp hq yp (le_of_lt pq)) (le_of_lt yp) (le_of_lt pq) (omega (arith, linear, det_turned y q p, det_swapped q p y))))
    by (inl py) (inr qy) = second (between_x p y q (lt_le_trans p.x p.w q.x q.w y.x y.w hp hq hy pq (le_of_lt qy)) (le_of_lt pq) (le_of_lt qy) (omega (arith, linear, det_swapped_right p y q)))
    by (inl py) (inl yq) = third (between_x p q y pq py yq e)

-- by x, and where that says nothing by `upright`
by_x : (p q y : Vector) → IsPoint p → IsPoint q → IsPoint y → turn p q y ≡ pos 0 → (SameX p q → Middle p q y) → Middle p q y
by_x p q y hp hq hy e upright = by (order_of (p.x *ℤ q.w) (q.x *ℤ p.w)) (order_of (p.x *ℤ y.w) (y.x *ℤ p.w))
  where
    by : Order (p.x *ℤ q.w) (q.x *ℤ p.w) → Order (p.x *ℤ y.w) (y.x *ℤ p.w) → Middle p q y
    by (is_less pq) o = rightward p q y hp hq hy e pq
    by (is_greater qp) o = middle_swapped (rightward q p y hq hp hy (omega (arith, linear, det_swapped p q y)) qp)
    by (is_equal pq) (is_equal py) = upright pq
    by (is_equal pq) (is_less py) = second (between_x p y q py (omega (arith, linear)) (le_trans q.x q.w p.x p.w y.x y.w hq hp hy (omega (arith, linear)) (omega (arith, linear))) (omega (arith, linear, det_swapped_right p y q)))
    by (is_equal pq) (is_greater yp) = second (swapped (between_x y p q yp (le_trans y.x y.w p.x p.w q.x q.w hy hp hq (omega (arith, linear)) (omega (arith, linear))) (omega (arith, linear)) (omega (arith, linear, det_turned y p q))))

pub middle : (p q y : Vector) → IsPoint p → IsPoint q → IsPoint y → turn p q y ≡ pos 0 → Middle p q y
middle p q y hp hq hy e =
    by_x p q y hp hq hy e
    (λ px. middle_flipped (by_x (flip p) (flip q) (flip y) hp hq hy (omega (arith, linear, turn_flipped p q y, e)) (λ py. middle_flipped (second (between_same p y q hp hq (px, py))))))
