-- A point on a segment is a combination of the ends with weights that are not negative, so what a line says of both ends it says of the point.
use Rattle.std.proofs.Common.{◌≡◌, ◌⊎◌, inl, inr, ℤ, pos, ◌+ℤ◌, ◌-ℤ◌, ◌*ℤ◌, neg_ℤ, ◌≤ℤ◌, ◌<ℤ◌, [], ◌∷◌, refl, ap, ◌∙◌, arith}
use Rattle.plan_exact.specs.Expr.{Expr, con, ◌⊕◌, ◌⊖◌, ◌⊗◌, neg}
use Rattle.plan_exact.specs.Sign.{Order, is_less, is_equal, is_greater}
use Rattle.plan_exact.specs.Vectors.{sum, scaled, opposite, dot, cross, env}
use Rattle.plan_exact.specs.Formal as F
use Rattle.plan_exact.specs.Formal.{A, B, C, J, K}
use Rattle.plan_exact.proofs.Certificates.{eq_from}
use Rattle.plan_exact.proofs.Fractions.{le_trans}
use Rattle.plan_exact.proofs.Laws.{mul_comm, zero_mul, linear}
use Rattle.plan_exact.proofs.Ring.{ring}
use Rattle.plan_exact.proofs.RingVectors.{ring_vectors, vector_path}
use Rattle.plan_exact.proofs.Signs.{mul_nonneg, mul_pos, nonneg_of_mul, pos_of_mul, order_of, le_of_lt, signs}
use Rattle.plan_exact.proofs.Vectors.{dot_combination_right, dot_opposite, det_swapped, cross_on_left, cross_on_right}
use Rattle.plan_spec.specs.Vector.{Vector, IsPoint, LeX, LtX, SameX, Same, turn}
use Rattle.plan_spec.specs.Segment.{On, segment}

-- scale z is first p + second q
pub record Between (p q z : Vector) : Type 0 where
  pub scale : ℤ
  pub first : ℤ
  pub second : ℤ
  pub scale_positive : pos 0 <ℤ scale
  pub first_nonneg : pos 0 ≤ℤ first
  pub second_nonneg : pos 0 ≤ℤ second
  pub is_sum : scaled scale z ≡ sum (scaled first p) (scaled second q)

-- ---- what a line, or any covector, says of the point
pub dot_between : {p q z : Vector} (b : Between p q z) (l : Vector) → b.scale *ℤ dot l z ≡ b.first *ℤ dot l p +ℤ b.second *ℤ dot l q
dot_between {p} {q} {z} b l = ring (env (b.scale ∷ []) (z ∷ l ∷ [])) (J ⊗ F.dot B A) (F.dot B (F.scaled J A)) tt ∙ ap (dot l) b.is_sum ∙ dot_combination_right b.first b.second p q l

pub nonneg_at : {p q z : Vector} → Between p q z → (l : Vector) → pos 0 ≤ℤ dot l p → pos 0 ≤ℤ dot l q → pos 0 ≤ℤ dot l z
nonneg_at {p} {q} {z} b l hp hq =
    let h : pos 0 ≤ℤ (b.scale *ℤ dot l z) = omega (arith, linear, dot_between b l, mul_nonneg b.first_nonneg hp, mul_nonneg b.second_nonneg hq) in
    nonneg_of_mul b.scale_positive h

-- where the point's weight is positive, one of the two is
some_weight : (k s t a b c : ℤ) → pos 0 <ℤ k → pos 0 <ℤ c → pos 0 ≤ℤ s → pos 0 ≤ℤ t → k *ℤ c ≡ s *ℤ a +ℤ t *ℤ b → (pos 0 <ℤ s) ⊎ (pos 0 <ℤ t)
some_weight k s t a b c hk hc hs ht e = by (order_of (pos 0) s) (order_of (pos 0) t)
  where
    by : Order (pos 0) s → Order (pos 0) t → (pos 0 <ℤ s) ⊎ (pos 0 <ℤ t)
    by (is_less h) o = inl h
    by (is_greater h) o = absurd (omega (arith, linear))
    by (is_equal h) (is_less i) = inr i
    by (is_equal h) (is_greater i) = absurd (omega (arith, linear))
    by (is_equal h) (is_equal i) = absurd (omega (arith, linear, mul_pos hk hc, zero_mul a, zero_mul b, ap (λ y. y *ℤ a) h, ap (λ y. y *ℤ b) i))

pub pos_at : {p q z : Vector} → IsPoint z → Between p q z → (l : Vector) → pos 0 <ℤ dot l p → pos 0 <ℤ dot l q → pos 0 <ℤ dot l z
pos_at {p} {q} {z} hz b l hp hq = pos_of_mul b.scale_positive (by (some_weight b.scale b.first b.second p.w q.w z.w b.scale_positive hz b.first_nonneg b.second_nonneg (ap (λ v. v.w) b.is_sum)))
  where
    by : (pos 0 <ℤ b.first) ⊎ (pos 0 <ℤ b.second) → pos 0 <ℤ (b.scale *ℤ dot l z)
    by (inl h) = omega (arith, linear, dot_between b l, mul_pos h hp, mul_nonneg b.second_nonneg (le_of_lt hq))
    by (inr h) = omega (arith, linear, dot_between b l, mul_nonneg b.first_nonneg (le_of_lt hp), mul_pos h hq)

pub neg_at : {p q z : Vector} → IsPoint z → Between p q z → (l : Vector) → dot l p <ℤ pos 0 → dot l q <ℤ pos 0 → dot l z <ℤ pos 0
neg_at {p} {q} {z} hz b l hp hq =
    let h = pos_at hz b (opposite l) (omega (arith, linear, dot_opposite l p)) (omega (arith, linear, dot_opposite l q)) in
    omega (arith, linear, dot_opposite l z)

pub zero_at : {p q z : Vector} → Between p q z → (l : Vector) → dot l p ≡ pos 0 → dot l q ≡ pos 0 → dot l z ≡ pos 0
zero_at {p} {q} {z} b l hp hq =
    let h = nonneg_at b l (omega (arith, linear)) (omega (arith, linear)) in
    let k = nonneg_at b (opposite l) (omega (arith, linear, dot_opposite l p)) (omega (arith, linear, dot_opposite l q)) in
    omega (arith, linear, dot_opposite l z)

-- ---- the ends in the other order, and the two coordinates in each other's place
pub swapped : {p q z : Vector} → Between p q z → Between q p z
swapped {p} {q} {z} b = record {
  scale = b.scale;
  first = b.second;
  second = b.first;
  scale_positive = b.scale_positive;
  first_nonneg = b.second_nonneg;
  second_nonneg = b.first_nonneg;
  is_sum = b.is_sum ∙ ring_vectors (env (b.first ∷ b.second ∷ []) (p ∷ q ∷ [])) (F.sum (F.scaled J A) (F.scaled K B)) (F.sum (F.scaled K B) (F.scaled J A)) tt;
}

abbrev pub flip : Vector → Vector
flip p = record { x = p.y; y = p.x; w = p.w }

pub flipped : {p q z : Vector} → Between p q z → Between (flip p) (flip q) (flip z)
flipped b = record {
  scale = b.scale;
  first = b.first;
  second = b.second;
  scale_positive = b.scale_positive;
  first_nonneg = b.first_nonneg;
  second_nonneg = b.second_nonneg;
  is_sum = ap flip b.is_sum;
}

pub turn_flipped : (p q z : Vector) → turn (flip p) (flip q) (flip z) ≡ neg_ℤ (turn p q z)
turn_flipped p q z = ring (env [] (p ∷ q ∷ z ∷ [])) (F.det (formal A) (formal B) (formal C)) (neg (F.det A B C)) tt
  where
    formal : F.Vec → F.Vec
    formal a = record { x = a.y; y = a.x; w = a.w }

-- ---- the order by x and by y against a fixed point
-- positive at what is right of r
abbrev pub right_of : Vector → Vector
right_of r = record { x = r.w; y = pos 0; w = neg_ℤ r.x }

pub right_of_is : (r p : Vector) → dot (right_of r) p ≡ p.x *ℤ r.w -ℤ r.x *ℤ p.w
right_of_is r p = ring (env [] (r ∷ p ∷ [])) (F.dot (record { x = A.w; y = F.zero; w = neg A.x }) B) (B.x ⊗ A.w ⊖ A.x ⊗ B.w) tt

pub LeX_before : {p q z : Vector} → Between p q z → (r : Vector) → LeX p r → LeX q r → LeX z r
LeX_before {p} {q} {z} b r h k =
    let f = nonneg_at b (opposite (right_of r)) (omega (arith, linear, dot_opposite (right_of r) p, right_of_is r p)) (omega (arith, linear, dot_opposite (right_of r) q, right_of_is r q)) in
    omega (arith, linear, dot_opposite (right_of r) z, right_of_is r z)

pub LeX_after : {p q z : Vector} → Between p q z → (r : Vector) → LeX r p → LeX r q → LeX r z
LeX_after {p} {q} {z} b r h k =
    let f = nonneg_at b (right_of r) (omega (arith, linear, right_of_is r p)) (omega (arith, linear, right_of_is r q)) in
    omega (arith, linear, right_of_is r z)

pub LtX_before : {p q z : Vector} → IsPoint z → Between p q z → (r : Vector) → LtX p r → LtX q r → LtX z r
LtX_before {p} {q} {z} hz b r h k =
    let f = neg_at hz b (right_of r) (omega (arith, linear, right_of_is r p)) (omega (arith, linear, right_of_is r q)) in
    omega (arith, linear, right_of_is r z)

pub LtX_after : {p q z : Vector} → IsPoint z → Between p q z → (r : Vector) → LtX r p → LtX r q → LtX r z
LtX_after {p} {q} {z} hz b r h k =
    let f = pos_at hz b (right_of r) (omega (arith, linear, right_of_is r p)) (omega (arith, linear, right_of_is r q)) in
    omega (arith, linear, right_of_is r z)

-- ---- in line and in the box, so between
-- of three points in line, the one whose x is between those of the two others
pub between_x : (p q z : Vector) → LtX p q → LeX p z → LeX z q → turn p q z ≡ pos 0 → Between p q z
between_x p q z lt h k e =
    let xs = env [] (p ∷ q ∷ z ∷ []) in
    record {
      scale = q.x *ℤ p.w -ℤ p.x *ℤ q.w;
      first = q.x *ℤ z.w -ℤ z.x *ℤ q.w;
      second = z.x *ℤ p.w -ℤ p.x *ℤ z.w;
      scale_positive = omega (arith, linear);
      first_nonneg = omega (arith, linear);
      second_nonneg = omega (arith, linear);
      is_sum = vector_path
          (ring xs (scale ⊗ C.x) (first ⊗ A.x ⊕ second ⊗ B.x) tt)
          (eq_from xs (con (pos 1)) (F.det A B C) (scale ⊗ C.y) (first ⊗ A.y ⊕ second ⊗ B.y) tt (search signs) e)
          (ring xs (scale ⊗ C.w) (first ⊗ A.w ⊕ second ⊗ B.w) tt);
    }
  where
    scale : Expr
    scale = B.x ⊗ A.w ⊖ A.x ⊗ B.w

    first : Expr
    first = B.x ⊗ C.w ⊖ C.x ⊗ B.w

    second : Expr
    second = C.x ⊗ A.w ⊖ A.x ⊗ C.w

-- one position
pub between_same : (p q z : Vector) → IsPoint p → IsPoint z → Same p z → Between p q z
between_same p q z hp hz (sx, sy) = record {
  scale = p.w;
  first = z.w;
  second = pos 0;
  scale_positive = hp;
  first_nonneg = le_of_lt hz;
  second_nonneg = omega (arith, linear);
  is_sum = vector_path
      (omega (arith, linear, mul_comm p.w z.x, mul_comm z.w p.x, zero_mul q.x))
      (omega (arith, linear, mul_comm p.w z.y, mul_comm z.w p.y, zero_mul q.y))
      (omega (arith, linear, mul_comm p.w z.w, zero_mul q.w));
}

-- the ends themselves
pub between_first : (p q : Vector) → IsPoint p → Between p q p
between_first p q hp = between_same p q p hp hp (refl, refl)

pub between_second : (p q : Vector) → IsPoint q → Between p q q
between_second p q hq = swapped (between_first q p hq)

-- by x, and where that says nothing by `upright`
between_by_x : (p q z : Vector) → IsPoint p → IsPoint q → IsPoint z → turn p q z ≡ pos 0 → (SameX p z → SameX q z → Between p q z) → LeX p z → LeX z q → Between p q z
between_by_x p q z hp hq hz e upright h k = by (order_of (p.x *ℤ q.w) (q.x *ℤ p.w))
  where
    by : Order (p.x *ℤ q.w) (q.x *ℤ p.w) → Between p q z
    by (is_less lt) = between_x p q z lt h k e
    by (is_equal eq) =
        let zp = le_trans z.x z.w q.x q.w p.x p.w hz hq hp k (omega (arith, linear)) in
        let qz = le_trans q.x q.w p.x p.w z.x z.w hq hp hz (omega (arith, linear)) h in
        upright (omega (arith, linear)) (omega (arith, linear))
    by (is_greater gt) = absurd (omega (arith, linear, le_trans p.x p.w z.x z.w q.x q.w hp hz hq h k))

between_either_way : (p q z : Vector) → IsPoint p → IsPoint q → IsPoint z → turn p q z ≡ pos 0 → (SameX p z → SameX q z → Between p q z) → (LeX p z × LeX z q) ⊎ (LeX q z × LeX z p) → Between p q z
between_either_way p q z hp hq hz e upright (inl (h, k)) = between_by_x p q z hp hq hz e upright h k
between_either_way p q z hp hq hz e upright (inr (h, k)) = swapped (between_by_x q p z hq hp hz (omega (arith, linear, det_swapped p q z)) (λ a b. swapped (upright b a)) h k)

pub between : (p q z : Vector) → IsPoint p → IsPoint q → IsPoint z → On (segment p q) z → Between p q z
between p q z hp hq hz on =
    between_either_way p q z hp hq hz on.in_line
    (λ px qx. flipped (between_either_way (flip p) (flip q) (flip z) hp hq hz (omega (arith, linear, turn_flipped p q z, on.in_line)) (λ py qy. flipped (between_same p q z hp hz (px, py))) on.within_y))
    on.within_x

-- ---- and the other way
within_x : {p q z : Vector} → Between p q z → (LeX p z × LeX z q) ⊎ (LeX q z × LeX z p)
within_x {p} {q} {z} b = by (order_of (p.x *ℤ q.w) (q.x *ℤ p.w))
  where
    by : Order (p.x *ℤ q.w) (q.x *ℤ p.w) → (LeX p z × LeX z q) ⊎ (LeX q z × LeX z p)
    by (is_less h) = inl (LeX_after b p (omega (arith, linear)) (omega (arith, linear)), LeX_before b q (omega (arith, linear)) (omega (arith, linear)))
    by (is_equal h) = inl (LeX_after b p (omega (arith, linear)) (omega (arith, linear)), LeX_before b q (omega (arith, linear)) (omega (arith, linear)))
    by (is_greater h) = inr (LeX_after b q (omega (arith, linear)) (omega (arith, linear)), LeX_before b p (omega (arith, linear)) (omega (arith, linear)))

pub on : {p q z : Vector} → Between p q z → On (segment p q) z
on {p} {q} {z} b = record {
  in_line = zero_at b (cross p q) (cross_on_left p q) (cross_on_right p q);
  within_x = within_x b;
  within_y = within_x (flipped b);
}
