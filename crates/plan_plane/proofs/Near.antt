-- What holds near z in the direction of d: at n z + d for all large n. A covector that is positive at z, or 0 there and positive at d, is positive near z; and the sum of two bounds serves two facts.
use Rattle.std.proofs.Common.{◌≡◌, ◌⊎◌, inl, inr, ℤ, pos, ◌+ℤ◌, ◌-ℤ◌, ◌*ℤ◌, ◌≤ℤ◌, ◌<ℤ◌, List, [], ◌∷◌, All, arith}
use Rattle.std.proofs.lemmas.List.Elements.{All-head, All-tail, All-nil, All-cons}
use Rattle.plan_exact.specs.Expr.{con, ◌⊕◌, ◌⊖◌, ◌⊗◌}
use Rattle.plan_exact.specs.Vectors.{sum, scaled, dot, env}
use Rattle.plan_exact.specs.Formal as F
use Rattle.plan_exact.specs.Formal.{A, B, C, J, K}
use Rattle.plan_exact.proofs.Laws.{linear}
use Rattle.plan_exact.proofs.Ring.{ring}
use Rattle.plan_exact.proofs.RingVectors.{ring_vectors}
use Rattle.plan_exact.proofs.Signs.{signs, zeros, mul_nonneg, mul_pos, le_or_lt}
use Rattle.plan_spec.specs.Vector.{Vector, IsPoint}
use Rattle.plan_plane.proofs.Segment.Between.{Between}

-- on the way from z to d, and the nearer to z the larger n is; d may be a point, or a direction, with the weight 0
abbrev pub step : ℤ → Vector → Vector → Vector
step n z d = sum (scaled n z) d

pub step_value : (n : ℤ) (z d l : Vector) → dot l (step n z d) ≡ n *ℤ dot l z +ℤ dot l d
step_value n z d l = ring (env (n ∷ []) (z ∷ d ∷ l ∷ [])) (F.dot C (F.sum (F.scaled J A) B)) (J ⊗ F.dot C A ⊕ F.dot C B) tt

pub step_between : (n : ℤ) (z d : Vector) → pos 0 ≤ℤ n → Between z d (step n z d)
step_between n z d k = record {
  scale = pos 1;
  first = n;
  second = pos 1;
  scale_positive = search signs;
  first_nonneg = k;
  second_nonneg = search signs;
  is_sum = ring_vectors (env (n ∷ []) (z ∷ d ∷ [])) (F.scaled (con (pos 1)) (F.sum (F.scaled J A) B)) (F.sum (F.scaled J A) (F.scaled (con (pos 1)) B)) tt;
}

-- ---- from some number on
pub record Near (z d : Vector) (P : Vector → Type 0) : Type 0 where
  pub least : ℤ
  pub positive : pos 0 <ℤ least
  pub beyond : (n : ℤ) → least ≤ℤ n → P (step n z d)

-- one of the points
pub near_at : {z d : Vector} {P : Vector → Type 0} (h : Near z d P) → P (step h.least z d)
near_at h = h.beyond h.least (omega (arith, linear))

pub near_always : {z d : Vector} (P : Vector → Type 0) → ((p : Vector) → P p) → Near z d P
near_always {z} {d} P f = record { least = pos 1; positive = omega (arith, linear); beyond = λ n b. f (step n z d) }

pub near_weaker : {z d : Vector} (P Q : Vector → Type 0) → ((p : Vector) → P p → Q p) → Near z d P → Near z d Q
near_weaker {z} {d} P Q f h = record { least = h.least; positive = h.positive; beyond = λ n b. f (step n z d) (h.beyond n b) }

pub near_both : {z d : Vector} (P Q : Vector → Type 0) → Near z d P → Near z d Q → Near z d (λ p. P p × Q p)
near_both P Q h k =
    let p = h.positive in
    let q = k.positive in
    record { least = h.least +ℤ k.least; positive = omega (arith, linear); beyond = λ n b. (h.beyond n (omega (arith, linear)), k.beyond n (omega (arith, linear))) }

pub near_all : {X : Type 0} {z d : Vector} (P : X → Vector → Type 0) (xs : List X) → All (λ x. Near z d (P x)) xs → Near z d (λ p. All (λ x. P x p) xs)
near_all P [] h = near_always (λ p. All (λ x. P x p) []) (λ p. All-nil (λ x. P x p))
near_all {z = z} {d = d} P (x ∷ xs) h =
    near_weaker (λ p. P x p × All (λ x. P x p) xs) (λ p. All (λ x. P x p) (x ∷ xs)) (λ p f. All-cons (λ x. P x p) x xs f.0 f.1)
    (near_both (P x) (λ p. All (λ x. P x p) xs) (All-head (λ x. Near z d (P x)) x xs h) (near_all P xs (All-tail (λ x. Near z d (P x)) x xs h)))

pub near_point : {z d : Vector} → IsPoint z → pos 0 ≤ℤ d.w → Near z d IsPoint
near_point hz hd = record { least = pos 1; positive = omega (arith, linear); beyond = λ n b. let m : pos 0 <ℤ n = omega (arith, linear) in let p = mul_pos m hz in omega (arith, linear) }

-- ---- covectors
-- positive at z, or not negative there and positive at d
abbrev pub Grows : Vector → Vector → Vector → Type 0
Grows z d l = (pos 0 <ℤ dot l z) ⊎ ((pos 0 ≤ℤ dot l z) × (pos 0 <ℤ dot l d))

at_least : (n k : ℤ) → pos 0 ≤ℤ n → pos 0 <ℤ k → n ≤ℤ (n *ℤ k)
at_least n k hn hk =
    let p : pos 0 ≤ℤ (k -ℤ pos 1) = omega (arith, linear) in
    omega (arith, linear, mul_nonneg hn p, ring (env (n ∷ k ∷ []) []) (J ⊗ (K ⊖ con (pos 1))) (J ⊗ K ⊖ J) tt)

pub near_pos : (z d l : Vector) → Grows z d l → Near z d (λ p. pos 0 <ℤ dot l p)
near_pos z d l (inr (h, k)) = record { least = pos 1; positive = omega (arith, linear); beyond = λ n b. let m : pos 0 ≤ℤ n = omega (arith, linear) in omega (arith, linear, step_value n z d l, mul_nonneg m h) }
near_pos z d l (inl h) = elim (le_or_lt (pos 0) (dot l d)) [
  | inl k ↦ record { least = pos 1; positive = omega (arith, linear); beyond = λ n b. let m : pos 0 ≤ℤ n = omega (arith, linear) in omega (arith, linear, step_value n z d l, at_least n (dot l z) m h) }
  | inr k ↦ record { least = pos 1 -ℤ dot l d; positive = omega (arith, linear); beyond = λ n b. let m : pos 0 ≤ℤ n = omega (arith, linear) in omega (arith, linear, step_value n z d l, at_least n (dot l z) m h) }
]

-- ---- one step
-- where the covector is 0 at v, the step has its sign at p
pub along_zero : (l v p : Vector) (n : ℤ) → dot l v ≡ pos 0 → dot l (step n v p) ≡ dot l p
along_zero l v p n h =
    let f : n *ℤ dot l v ≡ pos 0 = search zeros in
    omega (arith, linear, step_value n v p l)

pub nonneg_step : (l v p : Vector) (n : ℤ) → pos 0 ≤ℤ n → pos 0 ≤ℤ dot l v → pos 0 ≤ℤ dot l p → pos 0 ≤ℤ dot l (step n v p)
nonneg_step l v p n k h i = omega (arith, linear, step_value n v p l, mul_nonneg k h)

pub step_point : (v p : Vector) (n : ℤ) → IsPoint v → pos 0 ≤ℤ p.w → pos 0 <ℤ n → IsPoint (step n v p)
step_point v p n hv hp k = omega (arith, linear, mul_pos k hv)
