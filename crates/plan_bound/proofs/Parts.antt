-- Between the points at two fractions of an edge lie exactly the points whose weights are between the two.
use Rattle.std.proofs.Common.{◌≡◌, ◌↔◌, ⊎_elim, ℤ, pos, ◌+ℤ◌, ◌-ℤ◌, ◌*ℤ◌, ◌≤ℤ◌, List, [], ◌∷◌, sym, ap₂, ◌∙◌, subst, arith}
use Rattle.plan_exact.specs.Expr.{Expr, var, con, ◌⊕◌, ◌⊖◌, ◌⊗◌, neg}
use Rattle.plan_exact.specs.Vectors.{Vector, sum, scaled, env}
use Rattle.plan_exact.specs.Formal as F
use Rattle.plan_exact.specs.Formal.{A, B, C, D, J, K, L, M, N}
use Rattle.plan_exact.proofs.Certificates.{eq_from}
use Rattle.plan_exact.proofs.Laws.{linear, mul_comm}
use Rattle.plan_exact.proofs.Ring.{ring}
use Rattle.plan_exact.proofs.RingVectors.{ring_vectors}
use Rattle.plan_exact.proofs.Signs.{signs, zeros, mul_nonneg, nonneg_of_mul, le_of_lt}
use Rattle.plan_spec.specs.Vector.{IsPoint, Same}
use Rattle.plan_spec.specs.Segment.{On, segment}
use Rattle.plan_plane.proofs.Segment.Combination.{on_combination}
use Rattle.plan_plane.proofs.Segment.Between.{Between, between, on}
use Rattle.plan_spec.specs.Weights.{Weights, IsWeights, weighted}
use Rattle.plan_grid.specs.Fraction.{Fraction}
use Rattle.plan_convex.proofs.Fractions.{IsFraction, at_most_trans, at_most_or_less}
use Rattle.plan_convex.specs.Parameter.{AtMost, Less, fraction_at, along, IsShare}
use Rattle.plan_convex.specs.Part.{InClosed}
use Rattle.plan_plane.proofs.Segment.Weights.{independent, weights_point}

-- ---- from the weights to the segment
-- the variables of two fractions and weights: the numbers n0 d0 n1 d1 s t
abbrev numbers_of : Fraction → Fraction → Weights → List ℤ
numbers_of f g z = f.num ∷ f.den ∷ g.num ∷ g.den ∷ z.s ∷ z.t ∷ []

abbrev Q : Expr
Q = F.number 5

apart_between : (a b : Vector) (f g : Fraction) (z : Weights) → Less f g → AtMost f (fraction_at z) → AtMost (fraction_at z) g → Between (along a b f) (along a b g) (weighted a b z)
apart_between a b f g z h i j = record {
  scale = g.num *ℤ f.den -ℤ f.num *ℤ g.den;
  first = g.num *ℤ (z.s +ℤ z.t) -ℤ z.t *ℤ g.den;
  second = z.t *ℤ f.den -ℤ f.num *ℤ (z.s +ℤ z.t);
  scale_positive = omega (arith, linear);
  first_nonneg = omega (arith, linear);
  second_nonneg = omega (arith, linear);
  is_sum = ring_vectors (env (numbers_of f g z) (a ∷ b ∷ []))
      (F.scaled (L ⊗ K ⊖ J ⊗ M) (F.sum (F.scaled N A) (F.scaled Q B)))
      (F.sum (F.scaled (L ⊗ (N ⊕ Q) ⊖ Q ⊗ M) (F.sum (F.scaled (K ⊖ J) A) (F.scaled J B))) (F.scaled (Q ⊗ K ⊖ J ⊗ (N ⊕ Q)) (F.sum (F.scaled (M ⊖ L) A) (F.scaled L B)))) tt;
}

-- at the fraction itself
at_between : (a b q : Vector) (f : Fraction) (z : Weights) → IsFraction f → IsWeights z → AtMost f (fraction_at z) → AtMost (fraction_at z) f → Between (along a b f) q (weighted a b z)
at_between a b q f z hf hz i j = record {
  scale = f.den;
  first = z.s +ℤ z.t;
  second = pos 0;
  scale_positive = hf;
  first_nonneg = le_of_lt hz.some;
  second_nonneg = omega (arith, linear);
  is_sum = ring_vectors (env (f.den ∷ z.s ∷ z.t ∷ []) (a ∷ b ∷ [])) (F.scaled J (F.sum (F.scaled K A) (F.scaled L B))) (F.sum (F.scaled (J ⊗ K) A) (F.scaled (J ⊗ L) B)) tt
      ∙ ap₂ (λ u v. sum (scaled u a) (scaled v b)) es et
      ∙ ring_vectors (env (f.num ∷ f.den ∷ z.s ∷ z.t ∷ []) (a ∷ b ∷ q ∷ [])) (F.sum (F.scaled ((L ⊕ M) ⊗ (K ⊖ J)) A) (F.scaled ((L ⊕ M) ⊗ J) B)) (F.sum (F.scaled (L ⊕ M) (F.sum (F.scaled (K ⊖ J) A) (F.scaled J B))) (F.scaled F.zero C)) tt;
}
  where
    level : z.t *ℤ f.den ≡ f.num *ℤ (z.s +ℤ z.t)
    level = omega (arith, linear)

    et : f.den *ℤ z.t ≡ (z.s +ℤ z.t) *ℤ f.num
    et = mul_comm f.den z.t ∙ level ∙ mul_comm f.num (z.s +ℤ z.t)

    es : f.den *ℤ z.s ≡ (z.s +ℤ z.t) *ℤ (f.den -ℤ f.num)
    es =
        let d : z.t *ℤ f.den -ℤ f.num *ℤ (z.s +ℤ z.t) ≡ pos 0 = omega (arith, linear, level) in
        eq_from (f.num ∷ f.den ∷ z.s ∷ z.t ∷ []) (con (pos 1)) (neg (con (pos 1)) ⊗ (var 3 ⊗ var 1 ⊖ var 0 ⊗ (var 2 ⊕ var 3))) (var 1 ⊗ var 2) ((var 2 ⊕ var 3) ⊗ (var 1 ⊖ var 0)) tt (search signs) (search zeros)

pub part_between : (a b : Vector) (f g : Fraction) (z : Weights) → IsFraction f → IsFraction g → IsWeights z → AtMost f g → InClosed (record { from = f; to = g }) (fraction_at z) → Between (along a b f) (along a b g) (weighted a b z)
part_between a b f g z hf hg hz h i = ⊎_elim (λ k. at_between a b (along a b g) f z hf hz i.0 (at_most_trans (fraction_at z) g f hz.some hg hf i.1 k)) (λ k. apart_between a b f g z k i.0 i.1) (at_most_or_less g f)

pub part_weights : (a b : Vector) (f g : Fraction) (z : Weights) → ¬ (Same a b) → AtMost f g → Between (along a b f) (along a b g) (weighted a b z) → InClosed (record { from = f; to = g }) (fraction_at z)
part_weights a b f g z different h m = (lower, upper)
  where
    i : ℤ
    i = m.first

    coefficients : (m.scale *ℤ z.s ≡ m.first *ℤ (f.den -ℤ f.num) +ℤ m.second *ℤ (g.den -ℤ g.num)) × (m.scale *ℤ z.t ≡ m.first *ℤ f.num +ℤ m.second *ℤ g.num)
    coefficients =
        independent a b (m.scale *ℤ z.s) (m.scale *ℤ z.t) (m.first *ℤ (f.den -ℤ f.num) +ℤ m.second *ℤ (g.den -ℤ g.num)) (m.first *ℤ f.num +ℤ m.second *ℤ g.num) different
        (ring_vectors (env (m.scale ∷ z.s ∷ z.t ∷ []) (a ∷ b ∷ [])) (F.sum (F.scaled (J ⊗ K) A) (F.scaled (J ⊗ L) B)) (F.scaled J (F.sum (F.scaled K A) (F.scaled L B))) tt
        ∙ m.is_sum
        ∙ ring_vectors (env (m.first ∷ m.second ∷ f.num ∷ f.den ∷ g.num ∷ g.den ∷ []) (a ∷ b ∷ []))
        (F.sum (F.scaled J (F.sum (F.scaled (M ⊖ L) A) (F.scaled L B))) (F.scaled K (F.sum (F.scaled (Q ⊖ N) A) (F.scaled N B))))
        (F.sum (F.scaled (J ⊗ (M ⊖ L) ⊕ K ⊗ (Q ⊖ N)) A) (F.scaled (J ⊗ L ⊕ K ⊗ N) B)) tt)

    up : pos 0 ≤ℤ (g.num *ℤ f.den -ℤ f.num *ℤ g.den)
    up = omega (arith, linear)

    lower : (f.num *ℤ (z.s +ℤ z.t)) ≤ℤ (z.t *ℤ f.den)
    lower =
        let e : m.scale *ℤ (z.t *ℤ f.den -ℤ f.num *ℤ (z.s +ℤ z.t)) ≡ m.second *ℤ (g.num *ℤ f.den -ℤ f.num *ℤ g.den) =
        ring (m.scale ∷ z.s ∷ z.t ∷ f.num ∷ f.den ∷ []) (var 0 ⊗ (var 2 ⊗ var 4 ⊖ var 3 ⊗ (var 1 ⊕ var 2))) ((var 0 ⊗ var 2) ⊗ var 4 ⊖ var 3 ⊗ (var 0 ⊗ var 1 ⊕ var 0 ⊗ var 2)) tt
        ∙ ap₂ (λ u v. v *ℤ f.den -ℤ f.num *ℤ (u +ℤ v)) coefficients.0 coefficients.1
        ∙ ring (m.first ∷ m.second ∷ f.num ∷ f.den ∷ g.num ∷ g.den ∷ []) ((var 0 ⊗ var 2 ⊕ var 1 ⊗ var 4) ⊗ var 3 ⊖ var 2 ⊗ ((var 0 ⊗ (var 3 ⊖ var 2) ⊕ var 1 ⊗ (var 5 ⊖ var 4)) ⊕ (var 0 ⊗ var 2 ⊕ var 1 ⊗ var 4))) (var 1 ⊗ (var 4 ⊗ var 3 ⊖ var 2 ⊗ var 5)) tt in
        let n : pos 0 ≤ℤ (z.t *ℤ f.den -ℤ f.num *ℤ (z.s +ℤ z.t)) = nonneg_of_mul m.scale_positive (subst (λ n. pos 0 ≤ℤ n) (sym e) (mul_nonneg m.second_nonneg up)) in
        omega (arith, linear)

    upper : (z.t *ℤ g.den) ≤ℤ (g.num *ℤ (z.s +ℤ z.t))
    upper =
        let e : m.scale *ℤ (g.num *ℤ (z.s +ℤ z.t) -ℤ z.t *ℤ g.den) ≡ m.first *ℤ (g.num *ℤ f.den -ℤ f.num *ℤ g.den) =
        ring (m.scale ∷ z.s ∷ z.t ∷ g.num ∷ g.den ∷ []) (var 0 ⊗ (var 3 ⊗ (var 1 ⊕ var 2) ⊖ var 2 ⊗ var 4)) (var 3 ⊗ (var 0 ⊗ var 1 ⊕ var 0 ⊗ var 2) ⊖ (var 0 ⊗ var 2) ⊗ var 4) tt
        ∙ ap₂ (λ u v. g.num *ℤ (u +ℤ v) -ℤ v *ℤ g.den) coefficients.0 coefficients.1
        ∙ ring (m.first ∷ m.second ∷ f.num ∷ f.den ∷ g.num ∷ g.den ∷ []) (var 4 ⊗ ((var 0 ⊗ (var 3 ⊖ var 2) ⊕ var 1 ⊗ (var 5 ⊖ var 4)) ⊕ (var 0 ⊗ var 2 ⊕ var 1 ⊗ var 4)) ⊖ (var 0 ⊗ var 2 ⊕ var 1 ⊗ var 4) ⊗ var 5) (var 0 ⊗ (var 4 ⊗ var 3 ⊖ var 2 ⊗ var 5)) tt in
        let n : pos 0 ≤ℤ (g.num *ℤ (z.s +ℤ z.t) -ℤ z.t *ℤ g.den) = nonneg_of_mul m.scale_positive (subst (λ n. pos 0 ≤ℤ n) (sym e) (mul_nonneg m.first_nonneg up)) in
        omega (arith, linear)

weights_of : (f : Fraction) → IsShare f → IsWeights (record { s = f.den -ℤ f.num; t = f.num })
weights_of f h = let p = h.positive in let n = h.nonneg in let u = h.upto in record { first = omega (arith, linear); second = n; some = omega (arith, linear) }

pub share_point : (a b : Vector) (f : Fraction) → IsPoint a → IsPoint b → IsShare f → IsPoint (along a b f)
share_point a b f ha hb hf = weights_point a b (record { s = f.den -ℤ f.num; t = f.num }) ha hb (weights_of f hf)

-- the point with these weights is on the segment from f to g exactly where its fraction is between the two
pub on_part : (a b : Vector) (f g : Fraction) (z : Weights) → IsPoint a → IsPoint b → ¬ (Same a b) → IsShare f → IsShare g → AtMost f g → IsWeights z → On (segment (along a b f) (along a b g)) (weighted a b z) ↔ InClosed (record { from = f; to = g }) (fraction_at z)
on_part a b f g z ha hb different hf hg h hz = (
  λ m. part_weights a b f g z different h (between (along a b f) (along a b g) (weighted a b z) (share_point a b f ha hb hf) (share_point a b g ha hb hg) (weights_point a b z ha hb hz) m),
  λ i. on (part_between a b f g z hf.positive hg.positive hz h i),
)

-- a point at a fraction of an edge is on the edge
pub share_on : (a b : Vector) (f : Fraction) → IsShare f → On (segment a b) (along a b f)
share_on a b f h = on_combination (f.den -ℤ f.num) f.num a b (weights_of f h).first h.nonneg
