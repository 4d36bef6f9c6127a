-- A point of a segment that is not an end has a positive weight at the other end.
use Rattle.std.proofs.Common.{◌≡◌, ℤ, pos, ◌+ℤ◌, ◌-ℤ◌, ◌*ℤ◌, ◌<ℤ◌, [], ◌∷◌, ap, arith, ◌≤ℤ◌, ◌∙◌}
use Rattle.plan_exact.specs.Expr.{◌⊕◌, ◌⊖◌, ◌⊗◌, neg}
use Rattle.plan_exact.specs.Formal.{A, B, C, J, K, L}
use Rattle.plan_exact.specs.Formal as F
use Rattle.plan_exact.specs.Vectors.{sum, scaled, env, dot}
use Rattle.plan_exact.proofs.Certificates.{eq_from}
use Rattle.plan_exact.proofs.Laws.{linear}
use Rattle.plan_exact.proofs.RingVectors.{ring_vectors}
use Rattle.plan_exact.proofs.Signs.{pos_of_nonneg, zeros, mul_pos, mul_nonneg, pos_of_mul}
use Rattle.plan_spec.specs.Vector.{Vector, Same}
use Rattle.plan_plane.proofs.Segment.Between.{Between, dot_between}

-- ---- weights of a point that is not an end
no_weight : (p q y : Vector) (k s t : ℤ) → pos 0 <ℤ k → t ≡ pos 0 → scaled k y ≡ sum (scaled s p) (scaled t q) → Same y p
no_weight p q y k s t hk zero e =
    let xs = env (k ∷ s ∷ t ∷ []) (p ∷ q ∷ y ∷ []) in
    let fx : k *ℤ y.x -ℤ (s *ℤ p.x +ℤ t *ℤ q.x) ≡ pos 0 = omega (arith, linear, ap (λ v. v.x) e) in
    let fy : k *ℤ y.y -ℤ (s *ℤ p.y +ℤ t *ℤ q.y) ≡ pos 0 = omega (arith, linear, ap (λ v. v.y) e) in
    let fw : k *ℤ y.w -ℤ (s *ℤ p.w +ℤ t *ℤ q.w) ≡ pos 0 = omega (arith, linear, ap (λ v. v.w) e) in (
      eq_from xs J (L ⊗ (B.x ⊗ A.w ⊖ A.x ⊗ B.w) ⊕ A.w ⊗ (J ⊗ C.x ⊖ (K ⊗ A.x ⊕ L ⊗ B.x)) ⊕ neg A.x ⊗ (J ⊗ C.w ⊖ (K ⊗ A.w ⊕ L ⊗ B.w))) (C.x ⊗ A.w) (A.x ⊗ C.w) tt hk (search zeros),
      eq_from xs J (L ⊗ (B.y ⊗ A.w ⊖ A.y ⊗ B.w) ⊕ A.w ⊗ (J ⊗ C.y ⊖ (K ⊗ A.y ⊕ L ⊗ B.y)) ⊕ neg A.y ⊗ (J ⊗ C.w ⊖ (K ⊗ A.w ⊕ L ⊗ B.w))) (C.y ⊗ A.w) (A.y ⊗ C.w) tt hk (search zeros),
    )

pub second_weight : {p q y : Vector} (b : Between p q y) → ¬ (Same y p) → pos 0 <ℤ b.second
second_weight {p} {q} {y} b apart = pos_of_nonneg b.second_nonneg (λ e. apart (no_weight p q y b.scale b.first b.second b.scale_positive e b.is_sum))

pub first_weight : {p q y : Vector} (b : Between p q y) → ¬ (Same y q) → pos 0 <ℤ b.first
first_weight {p} {q} {y} b apart =
    let turned = ring_vectors (env (b.first ∷ b.second ∷ []) (p ∷ q ∷ [])) (F.sum (F.scaled J A) (F.scaled K B)) (F.sum (F.scaled K B) (F.scaled J A)) tt in
    pos_of_nonneg b.first_nonneg (λ e. apart (no_weight q p y b.scale b.second b.first b.scale_positive e (b.is_sum ∙ turned)))

-- a covector that is not negative at the ends, and positive at one whose weight is
pub pos_by_second : {p q y : Vector} (b : Between p q y) (l : Vector) → pos 0 <ℤ b.second → pos 0 ≤ℤ dot l p → pos 0 <ℤ dot l q → pos 0 <ℤ dot l y
pos_by_second b l hw hp hq = pos_of_mul b.scale_positive (omega (arith, linear, dot_between b l, mul_nonneg b.first_nonneg hp, mul_pos hw hq))

pub pos_by_first : {p q y : Vector} (b : Between p q y) (l : Vector) → pos 0 <ℤ b.first → pos 0 <ℤ dot l p → pos 0 ≤ℤ dot l q → pos 0 <ℤ dot l y
pos_by_first b l hw hp hq = pos_of_mul b.scale_positive (omega (arith, linear, dot_between b l, mul_pos hw hp, mul_nonneg b.second_nonneg hq))
