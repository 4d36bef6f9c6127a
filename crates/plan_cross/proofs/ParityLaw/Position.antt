-- What is said of a point depends on its position alone, and not on its triple: two triples of one position are multiples of one another, by positive numbers.
use Rattle.std.proofs.Common.{◌≡◌, ◌⊎◌, inl, inr, ℤ, pos, ◌-ℤ◌, ◌*ℤ◌, ◌≤ℤ◌, ◌<ℤ◌, Bool, ◌&&◌, ◌||◌, List, [], ◌∷◌, int_lt, int_le, refl, sym, ap₂, ◌∙◌, arith}
use Rattle.std.proofs.lemmas.Bool.Decides.{same_from_decides}
use Rattle.plan_exact.specs.Expr.{con, ◌⊖◌, ◌⊗◌}
use Rattle.plan_exact.specs.Vectors.{env}
use Rattle.plan_exact.specs.Formal.{A, B, C}
use Rattle.plan_exact.proofs.Laws.{linear, zero_mul}
use Rattle.plan_exact.proofs.Ring.{ring}
use Rattle.plan_exact.proofs.Certificates.{eq_from}
use Rattle.plan_exact.proofs.Signs.{signs, zeros, le_of_lt, mul_le_mul, mul_lt_mul, le_or_lt}
use Rattle.plan_exact.proofs.Tests.{le_true, le_false, lt_true, lt_false}
use Rattle.plan_spec.specs.Vector.{Vector, IsPoint, Same, turn, same}
use Rattle.plan_spec.specs.Segment.{Segment}
use Rattle.plan_spec.specs.Parity.{over_from, over, parity, xor, counted}
use Rattle.plan_plane.proofs.Segment.Same.{turn_same, same_true, same_from, Same-swapped, Same-trans}

-- ---- orders, times a positive number
scaled_le : (x y k : ℤ) → pos 0 <ℤ k → int_le x y ≡ int_le (x *ℤ k) (y *ℤ k)
scaled_le x y k hk = by (le_or_lt x y)
  where
    by : (x ≤ℤ y) ⊎ (y <ℤ x) → int_le x y ≡ int_le (x *ℤ k) (y *ℤ k)
    by (inl h) = le_true h ∙ sym (le_true (mul_le_mul k (le_of_lt hk) h))
    by (inr h) = le_false h ∙ sym (le_false (mul_lt_mul k hk h))

scaled_lt : (x y k : ℤ) → pos 0 <ℤ k → int_lt x y ≡ int_lt (x *ℤ k) (y *ℤ k)
scaled_lt x y k hk = by (le_or_lt y x)
  where
    by : (y ≤ℤ x) ⊎ (x <ℤ y) → int_lt x y ≡ int_lt (x *ℤ k) (y *ℤ k)
    by (inl h) = lt_false h ∙ sym (lt_false (mul_le_mul k (le_of_lt hk) h))
    by (inr h) = lt_true h ∙ sym (lt_true (mul_lt_mul k hk h))

-- x is to u as l is to k
record Proportion (x u k l : ℤ) : Type 0 where
  equal : x *ℤ k ≡ u *ℤ l

same_le : {x y u v k l : ℤ} → pos 0 <ℤ k → pos 0 <ℤ l → Proportion x u k l → Proportion y v k l → int_le x y ≡ int_le u v
same_le {x} {y} {u} {v} {k} {l} hk hl e f = scaled_le x y k hk ∙ ap₂ int_le e.equal f.equal ∙ sym (scaled_le u v l hl)

same_lt : {x y u v k l : ℤ} → pos 0 <ℤ k → pos 0 <ℤ l → Proportion x u k l → Proportion y v k l → int_lt x y ≡ int_lt u v
same_lt {x} {y} {u} {v} {k} {l} hk hl e f = scaled_lt x y k hk ∙ ap₂ int_lt e.equal f.equal ∙ sym (scaled_lt u v l hl)

-- ---- what the tests compare, at two triples z and u of one position
fixed_x : (e z u : Vector) → Proportion (e.x *ℤ z.w) (e.x *ℤ u.w) u.w z.w
fixed_x e z u = record { equal = ring (env [] (e ∷ z ∷ u ∷ [])) ((A.x ⊗ B.w) ⊗ C.w) ((A.x ⊗ C.w) ⊗ B.w) tt }

moved_x : (e z u : Vector) → Same z u → Proportion (z.x *ℤ e.w) (u.x *ℤ e.w) u.w z.w
moved_x e z u h =
    let g : z.x *ℤ u.w -ℤ u.x *ℤ z.w ≡ pos 0 = omega (arith, linear, h.0) in
    record {
      equal = eq_from (env [] (e ∷ z ∷ u ∷ [])) (con (pos 1)) (A.w ⊗ (B.x ⊗ C.w ⊖ C.x ⊗ B.w)) ((B.x ⊗ A.w) ⊗ C.w) ((C.x ⊗ A.w) ⊗ B.w) tt (search signs) (search zeros);
    }

moved_turn : (a b z u : Vector) → Same z u → Proportion (turn a b z) (turn a b u) u.w z.w
moved_turn a b z u h = record { equal = turn_same a b z u h }

fixed_zero : (z u : Vector) → Proportion (pos 0) (pos 0) u.w z.w
fixed_zero z u = record { equal = zero_mul u.w ∙ sym (zero_mul z.w) }

-- ---- over, parity and counted
over_from_same : (a b z u : Vector) → IsPoint z → IsPoint u → Same z u → over_from a b z ≡ over_from a b u
over_from_same a b z u hz hu h =
    let left = same_le hu hz (fixed_x a z u) (moved_x a z u h) in
    let right = same_lt hu hz (moved_x b z u h) (fixed_x b z u) in
    let below = same_lt hu hz (moved_turn a b z u h) (fixed_zero z u) in
    ap₂ (λ s t. s && t) left (ap₂ (λ s t. s && t) right below)

over_same : (s : Segment) (z u : Vector) → IsPoint z → IsPoint u → Same z u → over s z ≡ over s u
over_same s z u hz hu h = ap₂ (λ x y. x || y) (over_from_same s.a s.b z u hz hu h) (over_from_same s.b s.a z u hz hu h)

pub parity_same : (chain : List Segment) (z u : Vector) → IsPoint z → IsPoint u → Same z u → parity chain z ≡ parity chain u
parity_same [] z u hz hu h = refl
parity_same (s ∷ ss) z u hz hu h = ap₂ xor (over_same s z u hz hu h) (parity_same ss z u hz hu h)

-- a test that answers the same at every triple of a position
abbrev pub IsByPosition : (Vector → Bool) → Type 0
IsByPosition f = (z u : Vector) → IsPoint z → IsPoint u → Same z u → f z ≡ f u

pub counted_same : (p q : Vector) → IsByPosition (counted p q)
counted_same p q z u hz hu h =
    let right = same_lt hu hz (fixed_x p z u) (moved_x p z u h) in
    let left = same_le hu hz (moved_x q z u h) (fixed_x q z u) in
    let over = same_lt hu hz (fixed_zero z u) (moved_turn p q z u h) in
    ap₂ (λ s t. s && t) right (ap₂ (λ s t. s && t) left over)

pub same_same : (e : Vector) → IsPoint e → IsByPosition (λ z. same z e)
same_same e he z u hz hu h =
    same_from_decides (same z e) (same u e) (same_true z e, same_from z e) ((λ k. Same-trans z u e hu h (same_true u e k)), λ k. same_from u e (Same-trans u z e hz (Same-swapped z u h) k))
