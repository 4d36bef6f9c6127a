-- A point inside a triangle is a combination of the corners with weights that are not negative, so what a line says of all three corners it says of the point.
use Rattle.std.proofs.Common.{◌≡◌, ℤ, zero, suc, pos, ◌+ℤ◌, ◌*ℤ◌, ◌≤ℤ◌, ◌<ℤ◌, [], ◌∷◌, ap, ◌∙◌, arith}
use Rattle.plan_exact.specs.Expr.{◌⊕◌, ◌⊗◌}
use Rattle.plan_exact.specs.Sign.{Order, is_less, is_equal, is_greater}
use Rattle.plan_exact.specs.Vectors.{sum, scaled, dot, env}
use Rattle.plan_exact.specs.Formal as F
use Rattle.plan_exact.specs.Formal.{A, B, C, D, J, K, L}
use Rattle.plan_exact.proofs.Laws.{zero_mul, linear}
use Rattle.plan_exact.proofs.Ring.{ring}
use Rattle.plan_exact.proofs.RingVectors.{ring_vectors}
use Rattle.plan_exact.proofs.Signs.{mul_nonneg, mul_pos, nonneg_of_mul, pos_of_mul, order_of, le_of_lt}
use Rattle.plan_spec.specs.Vector.{Vector, IsPoint, turn}
use Rattle.plan_spec.specs.Segment.{segment}
use Rattle.plan_spec.specs.Polygon.{Inside}

-- scale z is first a + second b + third c
pub record Among (a b c z : Vector) : Type 0 where
  pub scale : ℤ
  pub first : ℤ
  pub second : ℤ
  pub third : ℤ
  pub scale_positive : pos 0 <ℤ scale
  pub first_nonneg : pos 0 ≤ℤ first
  pub second_nonneg : pos 0 ≤ℤ second
  pub third_nonneg : pos 0 ≤ℤ third
  pub is_sum : scaled scale z ≡ sum (sum (scaled first a) (scaled second b)) (scaled third c)

-- ---- held, so on or left of each side
pub record LeftOfSides (a b c z : Vector) : Type 0 where
  pub first : pos 0 ≤ℤ turn a b z
  pub second : pos 0 ≤ℤ turn b c z
  pub third : pos 0 ≤ℤ turn c a z

pub sides : (a b c z : Vector) → Inside (a ∷ b ∷ c ∷ []) z → LeftOfSides a b c z
sides a b c z inside =
    let s = segment a b in
    record { first = inside 0 s (omega arith); second = inside 1 s (omega arith); third = inside 2 s (omega arith) }

-- and the other way
pub held : (a b c z : Vector) → pos 0 ≤ℤ turn a b z → pos 0 ≤ℤ turn b c z → pos 0 ≤ℤ turn c a z → Inside (a ∷ b ∷ c ∷ []) z
held a b c z ab bc ca zero d within = ab
held a b c z ab bc ca (suc zero) d within = bc
held a b c z ab bc ca (suc (suc zero)) d within = ca
held a b c z ab bc ca (suc (suc (suc k))) d within = absurd (omega arith)

-- from the next corner on, the same
pub inside_turned : (a b c z : Vector) → Inside (a ∷ b ∷ c ∷ []) z → Inside (b ∷ c ∷ a ∷ []) z
inside_turned a b c z inside = let s = sides a b c z inside in held b c a z s.second s.third s.first

-- ---- held, so a combination (Cramer)
pub among : (a b c z : Vector) → pos 0 <ℤ turn a b c → Inside (a ∷ b ∷ c ∷ []) z → Among a b c z
among a b c z h inside = let s = sides a b c z inside in record {
  scale = turn a b c;
  first = turn b c z;
  second = turn c a z;
  third = turn a b z;
  scale_positive = h;
  first_nonneg = s.second;
  second_nonneg = s.third;
  third_nonneg = s.first;
  is_sum = ring_vectors (env [] (a ∷ b ∷ c ∷ z ∷ [])) (F.scaled (F.det A B C) D) (F.sum (F.sum (F.scaled (F.det B C D) A) (F.scaled (F.det C A D) B)) (F.scaled (F.det A B D) C)) tt;
}

-- ---- what a line, or any covector, says of the point
pub dot_among : {a b c z : Vector} (m : Among a b c z) (l : Vector) → m.scale *ℤ dot l z ≡ m.first *ℤ dot l a +ℤ m.second *ℤ dot l b +ℤ m.third *ℤ dot l c
dot_among {a} {b} {c} {z} m l =
    ring (env (m.scale ∷ []) (z ∷ l ∷ [])) (J ⊗ F.dot B A) (F.dot B (F.scaled J A)) tt
    ∙ ap (dot l) m.is_sum
    ∙ ring (env (m.first ∷ m.second ∷ m.third ∷ []) (a ∷ b ∷ c ∷ l ∷ [])) (F.dot D (F.sum (F.sum (F.scaled J A) (F.scaled K B)) (F.scaled L C))) (J ⊗ F.dot D A ⊕ K ⊗ F.dot D B ⊕ L ⊗ F.dot D C) tt

pub nonneg_at : {a b c z : Vector} → Among a b c z → (l : Vector) → pos 0 ≤ℤ dot l a → pos 0 ≤ℤ dot l b → pos 0 ≤ℤ dot l c → pos 0 ≤ℤ dot l z
nonneg_at {a} {b} {c} {z} m l ha hb hc =
    let h : pos 0 ≤ℤ (m.scale *ℤ dot l z) = omega (arith, linear, dot_among m l, mul_nonneg m.first_nonneg ha, mul_nonneg m.second_nonneg hb, mul_nonneg m.third_nonneg hc) in
    nonneg_of_mul m.scale_positive h

-- at a point one of the three weights is positive
pub pos_at : {a b c z : Vector} → IsPoint z → Among a b c z → (l : Vector) → pos 0 <ℤ dot l a → pos 0 <ℤ dot l b → pos 0 <ℤ dot l c → pos 0 <ℤ dot l z
pos_at {a} {b} {c} {z} hz m l ha hb hc = pos_of_mul m.scale_positive (by (order_of (pos 0) m.first) (order_of (pos 0) m.second) (order_of (pos 0) m.third))
  where
    weight : m.scale *ℤ z.w ≡ m.first *ℤ a.w +ℤ m.second *ℤ b.w +ℤ m.third *ℤ c.w
    weight = ap (λ v. v.w) m.is_sum

    by : Order (pos 0) m.first → Order (pos 0) m.second → Order (pos 0) m.third → pos 0 <ℤ (m.scale *ℤ dot l z)
    by (is_greater h) i j = absurd (omega (arith, linear, m.first_nonneg))
    by h (is_greater i) j = absurd (omega (arith, linear, m.second_nonneg))
    by h i (is_greater j) = absurd (omega (arith, linear, m.third_nonneg))
    by (is_less h) i j = omega (arith, linear, dot_among m l, mul_pos h ha, mul_nonneg m.second_nonneg (le_of_lt hb), mul_nonneg m.third_nonneg (le_of_lt hc))
    by h (is_less i) j = omega (arith, linear, dot_among m l, mul_nonneg m.first_nonneg (le_of_lt ha), mul_pos i hb, mul_nonneg m.third_nonneg (le_of_lt hc))
    by h i (is_less j) = omega (arith, linear, dot_among m l, mul_nonneg m.first_nonneg (le_of_lt ha), mul_nonneg m.second_nonneg (le_of_lt hb), mul_pos j hc)
    by (is_equal h) (is_equal i) (is_equal j) = absurd (omega (arith, linear, weight, mul_pos m.scale_positive hz, zero_mul a.w, zero_mul b.w, zero_mul c.w, ap (λ y. y *ℤ a.w) h, ap (λ y. y *ℤ b.w) i, ap (λ y. y *ℤ c.w) j))
