-- Each point of a segment has weights at its ends, and each such weights give a point of it; which of the two ends it is, if one, shows in the weights.
use Rattle.std.proofs.Common.{◌≡◌, ⊎_elim, ℤ, pos, ◌+ℤ◌, ◌-ℤ◌, ◌*ℤ◌, ◌<ℤ◌, [], ◌∷◌, sym, ap, ◌∙◌, arith}
use Rattle.plan_exact.specs.Expr.{var, con, ◌⊕◌, ◌⊖◌, ◌⊗◌, neg}
use Rattle.plan_exact.specs.Sign.{Sign, is_negative, is_zero, is_positive}
use Rattle.plan_exact.specs.Vectors.{sum, scaled, env}
use Rattle.plan_exact.specs.Formal as F
use Rattle.plan_exact.specs.Formal.{A, B, J, K}
use Rattle.plan_exact.proofs.Certificates.{eq_from}
use Rattle.plan_exact.proofs.Laws.{linear}
use Rattle.plan_exact.proofs.Ring.{ring}
use Rattle.plan_exact.proofs.RingVectors.{ring_vectors}
use Rattle.plan_exact.proofs.Signs.{signs, zeros, sign_of, zero_or_zero, mul_nonneg, mul_pos, le_of_lt, zero_of_mul_left}
use Rattle.plan_spec.specs.Vector.{Vector, IsPoint, Same}
use Rattle.plan_spec.specs.Segment.{On, segment}
use Rattle.plan_spec.specs.Weights.{Weights, IsWeights, IsInner, weighted}
use Rattle.plan_plane.proofs.Segment.Between.{Between, between}
use Rattle.plan_plane.proofs.Segment.Same.{Same-swapped}

-- each point of an edge has weights
pub record HasWeights (a b z : Vector) : Type 0 where
  pub at : Weights
  pub weights : IsWeights at
  pub same : Same (weighted a b at) z

-- ---- and back
-- two points that are not one are independent
first_equal : (a b : Vector) (i j k l : ℤ) → ¬ (Same a b) → sum (scaled i a) (scaled j b) ≡ sum (scaled k a) (scaled l b) → i ≡ k
first_equal a b i j k l different e = ⊎_elim equal (λ ex. ⊎_elim equal (λ ey. absurd (different (omega (arith, linear), omega (arith, linear)))) (zero_or_zero (i -ℤ k) (a.y *ℤ b.w -ℤ b.y *ℤ a.w) dy)) (zero_or_zero (i -ℤ k) (a.x *ℤ b.w -ℤ b.x *ℤ a.w) dx)
  where
    equal : i -ℤ k ≡ pos 0 → i ≡ k
    equal h = omega (arith, linear)

    level : (c d v w : ℤ) → i *ℤ c +ℤ j *ℤ d ≡ k *ℤ c +ℤ l *ℤ d → i *ℤ v +ℤ j *ℤ w ≡ k *ℤ v +ℤ l *ℤ w → (i -ℤ k) *ℤ (c *ℤ w -ℤ d *ℤ v) ≡ pos 0
    level c d v w ec ew =
        let dc : (i *ℤ c +ℤ j *ℤ d) -ℤ (k *ℤ c +ℤ l *ℤ d) ≡ pos 0 = omega (arith, linear, ec) in
        let dw : (i *ℤ v +ℤ j *ℤ w) -ℤ (k *ℤ v +ℤ l *ℤ w) ≡ pos 0 = omega (arith, linear, ew) in
        eq_from (i ∷ j ∷ k ∷ l ∷ c ∷ d ∷ v ∷ w ∷ []) (con (pos 1))
        (var 7 ⊗ ((var 0 ⊗ var 4 ⊕ var 1 ⊗ var 5) ⊖ (var 2 ⊗ var 4 ⊕ var 3 ⊗ var 5)) ⊕ neg (var 5) ⊗ ((var 0 ⊗ var 6 ⊕ var 1 ⊗ var 7) ⊖ (var 2 ⊗ var 6 ⊕ var 3 ⊗ var 7)))
        ((var 0 ⊖ var 2) ⊗ (var 4 ⊗ var 7 ⊖ var 5 ⊗ var 6)) (con (pos 0)) tt (search signs) (search zeros)

    dx : (i -ℤ k) *ℤ (a.x *ℤ b.w -ℤ b.x *ℤ a.w) ≡ pos 0
    dx = level a.x b.x a.w b.w (ap (λ v. v.x) e) (ap (λ v. v.w) e)

    dy : (i -ℤ k) *ℤ (a.y *ℤ b.w -ℤ b.y *ℤ a.w) ≡ pos 0
    dy = level a.y b.y a.w b.w (ap (λ v. v.y) e) (ap (λ v. v.w) e)

pub exchanged : (a b : Vector) (i j : ℤ) → sum (scaled i a) (scaled j b) ≡ sum (scaled j b) (scaled i a)
exchanged a b i j = ring_vectors (env (i ∷ j ∷ []) (a ∷ b ∷ [])) (F.sum (F.scaled J A) (F.scaled K B)) (F.sum (F.scaled K B) (F.scaled J A)) tt

pub independent : (a b : Vector) (i j k l : ℤ) → ¬ (Same a b) → sum (scaled i a) (scaled j b) ≡ sum (scaled k a) (scaled l b) → (i ≡ k) × (j ≡ l)
independent a b i j k l different e = (first_equal a b i j k l different e, first_equal b a j i l k (λ h. different (Same-swapped b a h)) (sym (exchanged a b i j) ∙ e ∙ exchanged a b k l))

pub weights_point : (a b : Vector) (z : Weights) → IsPoint a → IsPoint b → IsWeights z → IsPoint (weighted a b z)
weights_point a b z ha hb hz = elim (sign_of z.s) [
  | is_positive h ↦ omega (arith, linear, mul_pos h ha, mul_nonneg hz.second (le_of_lt hb))
  | is_negative h ↦ absurd (omega (arith, linear, hz.first))
  | is_zero e ↦ let t : pos 0 <ℤ z.t = omega (arith, linear, hz.some) in omega (arith, linear, zero_of_mul_left z.s a.w e, mul_pos t hb)
]

pub weights_on : (a b z : Vector) → IsPoint a → IsPoint b → IsPoint z → On (segment a b) z → HasWeights a b z
weights_on a b z ha hb hz h = record {
  at = record { s = m.first; t = m.second };
  weights = record { first = m.first_nonneg; second = m.second_nonneg; some = some };
  same = (level m.scale z.x z.w _ _ (ap (λ v. v.x) m.is_sum) (ap (λ v. v.w) m.is_sum), level m.scale z.y z.w _ _ (ap (λ v. v.y) m.is_sum) (ap (λ v. v.w) m.is_sum));
}
  where
    m : Between a b z
    m = between a b z ha hb hz h

    some : pos 0 <ℤ (m.first +ℤ m.second)
    some = elim (sign_of (m.first +ℤ m.second)) [
      | is_positive h ↦ h
      | is_negative h ↦ absurd (omega (arith, linear, m.first_nonneg, m.second_nonneg))
      | is_zero e ↦
          let f : m.first ≡ pos 0 = omega (arith, linear, m.first_nonneg, m.second_nonneg) in
          let g : m.second ≡ pos 0 = omega (arith, linear, m.first_nonneg, m.second_nonneg) in
          absurd (omega (arith, linear, ap (λ v. v.w) m.is_sum, mul_pos m.scale_positive hz, zero_of_mul_left m.first a.w f, zero_of_mul_left m.second b.w g))
    ]

    level : (k x w c d : ℤ) → k *ℤ x ≡ c → k *ℤ w ≡ d → c *ℤ w ≡ x *ℤ d
    level k x w c d e f = ap (λ c. c *ℤ w) (sym e) ∙ ring (k ∷ x ∷ w ∷ []) ((var 0 ⊗ var 1) ⊗ var 2) (var 1 ⊗ (var 0 ⊗ var 2)) tt ∙ ap (λ d. x *ℤ d) f

-- ---- positions at the two ends
pub at_first : (a b : Vector) (z : Weights) → z.t ≡ pos 0 → Same a (weighted a b z)
at_first a b z e =
    let d = ap (λ n. n) e in
    (level a.x b.x a.w b.w, level a.y b.y a.w b.w)
  where
    level : (c d v w : ℤ) → c *ℤ (z.s *ℤ v +ℤ z.t *ℤ w) ≡ (z.s *ℤ c +ℤ z.t *ℤ d) *ℤ v
    level c d v w = eq_from (z.s ∷ z.t ∷ c ∷ d ∷ v ∷ w ∷ []) (con (pos 1)) ((var 2 ⊗ var 5 ⊖ var 3 ⊗ var 4) ⊗ var 1) (var 2 ⊗ (var 0 ⊗ var 4 ⊕ var 1 ⊗ var 5)) ((var 0 ⊗ var 2 ⊕ var 1 ⊗ var 3) ⊗ var 4) tt (search signs) (search zeros)

pub at_last : (a b : Vector) (z : Weights) → z.s ≡ pos 0 → Same b (weighted a b z)
at_last a b z e = (level a.x b.x a.w b.w, level a.y b.y a.w b.w)
  where
    level : (c d v w : ℤ) → d *ℤ (z.s *ℤ v +ℤ z.t *ℤ w) ≡ (z.s *ℤ c +ℤ z.t *ℤ d) *ℤ w
    level c d v w = eq_from (z.s ∷ z.t ∷ c ∷ d ∷ v ∷ w ∷ []) (con (pos 1)) ((var 3 ⊗ var 4 ⊖ var 2 ⊗ var 5) ⊗ var 0) (var 3 ⊗ (var 0 ⊗ var 4 ⊕ var 1 ⊗ var 5)) ((var 0 ⊗ var 2 ⊕ var 1 ⊗ var 3) ⊗ var 5) tt (search signs) (search zeros)

-- ---- the three kinds of places
pub data Where (z : Weights) : Type 0 where
  inner : IsInner z → Where z
  at_a : z.t ≡ pos 0 → Where z
  at_b : z.s ≡ pos 0 → Where z

pub where_is : (z : Weights) → IsWeights z → Where z
where_is z hz = by (sign_of z.s) (sign_of z.t)
  where
    by : Sign z.s → Sign z.t → Where z
    by (is_zero e) t = at_b e
    by (is_negative n) t = absurd (omega (arith, linear, hz.first))
    by s (is_zero e) = at_a e
    by s (is_negative n) = absurd (omega (arith, linear, hz.second))
    by (is_positive h) (is_positive k) = inner (h, k)
