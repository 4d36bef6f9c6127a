-- A value that is linear along an edge is positive, or not negative, on one side of the place where it passes 0; so what is left of a part is a part.
use Rattle.std.proofs.Common.{◌≡◌, ◌↔◌, inl, inr, ℤ, pos, ◌+ℤ◌, ◌-ℤ◌, ◌*ℤ◌, neg_ℤ, ◌≤ℤ◌, ◌<ℤ◌, Bool, true, false, cond, Some, None, [], ◌∷◌, refl, arith}
use Rattle.plan_exact.specs.Expr.{var, ◌⊕◌, ◌⊖◌, ◌⊗◌, neg}
use Rattle.plan_exact.specs.Sign.{is_negative, is_zero, is_positive}
use Rattle.plan_exact.proofs.Laws.{linear, one_mul, zero_mul}
use Rattle.plan_exact.proofs.Ring.{ring}
use Rattle.plan_exact.proofs.Signs.{mul_pos, mul_nonneg, mul_nonneg_nonpos, mul_pos_neg, zero_of_mul_left, sign_of, le_of_lt, le_or_lt}
use Rattle.plan_spec.specs.Weights.{Weights, IsInner}
use Rattle.plan_grid.specs.Fraction.{Fraction}
use Rattle.plan_convex.specs.declared.part.Part.{Part}
use Rattle.plan_convex.specs.Parameter.{AtMost, Less, at_most, balance, fraction_at}
use Rattle.plan_convex.specs.Part.{InOpen, InClosed, from_later, to_earlier, value_at, nowhere, IsWherePositive, IsWhereNotNegative}
use Rattle.plan_convex.proofs.Fractions.{IsFraction, at_most_trans, less_at_most, at_most_less, weak, at_most_true, at_most_false}

-- ---- where the value passes 0
pub rises_is : (a b : ℤ) (z : Weights) → z.t *ℤ (neg_ℤ a +ℤ b) -ℤ neg_ℤ a *ℤ (z.s +ℤ z.t) ≡ value_at a b z
rises_is a b z = ring (a ∷ b ∷ z.s ∷ z.t ∷ []) (var 3 ⊗ (neg (var 0) ⊕ var 1) ⊖ neg (var 0) ⊗ (var 2 ⊕ var 3)) (var 2 ⊗ var 0 ⊕ var 3 ⊗ var 1) tt

pub falls_is : (a b : ℤ) (z : Weights) → a *ℤ (z.s +ℤ z.t) -ℤ z.t *ℤ (a +ℤ neg_ℤ b) ≡ value_at a b z
falls_is a b z = ring (a ∷ b ∷ z.s ∷ z.t ∷ []) (var 0 ⊗ (var 2 ⊕ var 3) ⊖ var 3 ⊗ (var 0 ⊕ neg (var 1))) (var 2 ⊗ var 0 ⊕ var 3 ⊗ var 1) tt

-- ---- a part from a place on, or up to one: the open part, and the closed one
abbrev Narrows : (Part → Fraction → Type 0) → Part → (Fraction → Type 0) → Part → Type 0
Narrows In p P q = (f : Fraction) → IsFraction f → (In p f × P f) ↔ In q f

pub open_from : (p : Part) (g : Fraction) → IsFraction p.from → IsFraction g → (f : Fraction) → IsFraction f → (InOpen p f × Less g f) ↔ InOpen (from_later p g) f
open_from p g hp hg = by (at_most g p.from) refl
  where
    by : (t : Bool) → at_most g p.from ≡ t → Narrows InOpen p (Less g) (cond t p (record { from = g; to = p.to }))
    by true e f hf = (λ h. h.0, λ i. (i, at_most_less g p.from f hg hp hf (at_most_true g p.from e) i.0))
    by false e f hf = (λ h. (h.1, h.0.1), λ i. ((less_at_most p.from g f hp hg hf (at_most_false g p.from e) (weak g f i.0), i.1), i.0))

pub open_upto : (p : Part) (g : Fraction) → IsFraction p.to → IsFraction g → (f : Fraction) → IsFraction f → (InOpen p f × Less f g) ↔ InOpen (to_earlier p g) f
open_upto p g hp hg = by (at_most p.to g) refl
  where
    by : (t : Bool) → at_most p.to g ≡ t → Narrows InOpen p (λ f. Less f g) (cond t p (record { from = p.from; to = g }))
    by true e f hf = (λ h. h.0, λ i. (i, less_at_most f p.to g hf hp hg i.1 (at_most_true p.to g e)))
    by false e f hf = (λ h. (h.0.0, h.1), λ i. ((i.0, at_most_less f g p.to hf hg hp (weak f g i.1) (at_most_false p.to g e)), i.1))

pub closed_from : (p : Part) (g : Fraction) → IsFraction p.from → IsFraction g → (f : Fraction) → IsFraction f → (InClosed p f × AtMost g f) ↔ InClosed (from_later p g) f
closed_from p g hp hg = by (at_most g p.from) refl
  where
    by : (t : Bool) → at_most g p.from ≡ t → Narrows InClosed p (AtMost g) (cond t p (record { from = g; to = p.to }))
    by true e f hf = (λ h. h.0, λ i. (i, at_most_trans g p.from f hg hp hf (at_most_true g p.from e) i.0))
    by false e f hf = (λ h. (h.1, h.0.1), λ i. ((at_most_trans p.from g f hp hg hf (weak p.from g (at_most_false g p.from e)) i.0, i.1), i.0))

pub closed_upto : (p : Part) (g : Fraction) → IsFraction p.to → IsFraction g → (f : Fraction) → IsFraction f → (InClosed p f × AtMost f g) ↔ InClosed (to_earlier p g) f
closed_upto p g hp hg = by (at_most p.to g) refl
  where
    by : (t : Bool) → at_most p.to g ≡ t → Narrows InClosed p (λ f. AtMost f g) (cond t p (record { from = p.from; to = g }))
    by true e f hf = (λ h. h.0, λ i. (i, at_most_trans f p.to g hf hp hg i.1 (at_most_true p.to g e)))
    by false e f hf = (λ h. (h.0.0, h.1), λ i. ((i.0, at_most_trans f g p.to hf hg hp i.1 (weak g p.to (at_most_false p.to g e))), i.1))

-- ---- where the value is positive
inner_some : (z : Weights) → IsInner z → IsFraction (fraction_at z)
inner_some z i = omega (arith, linear, i.0, i.1)

pub rises_positive : (p : Part) (a b : ℤ) → IsFraction p.from → a ≤ℤ pos 0 → pos 0 <ℤ b → IsWherePositive p a b (Some (from_later p (balance (neg_ℤ a) b)))
rises_positive p a b hp h k z i =
    let g = open_from p (balance (neg_ℤ a) b) hp (omega (arith, linear)) (fraction_at z) (inner_some z i) in (
      λ m. let v = m.1 in g.0 (m.0, omega (arith, linear, rises_is a b z)),
      λ m. let n = g.1 m in let v = n.1 in (n.0, omega (arith, linear, rises_is a b z)),
    )

pub falls_positive : (p : Part) (a b : ℤ) → IsFraction p.to → pos 0 <ℤ a → b <ℤ pos 0 → IsWherePositive p a b (Some (to_earlier p (balance a (neg_ℤ b))))
falls_positive p a b hp h k z i =
    let g = open_upto p (balance a (neg_ℤ b)) hp (omega (arith, linear)) (fraction_at z) (inner_some z i) in (
      λ m. let v = m.1 in g.0 (m.0, omega (arith, linear, falls_is a b z)),
      λ m. let n = g.1 m in let v = n.1 in (n.0, omega (arith, linear, falls_is a b z)),
    )

pub always_positive : (p : Part) (a b : ℤ) → pos 0 <ℤ a → pos 0 ≤ℤ b → IsWherePositive p a b (Some p)
always_positive p a b h k z i = (λ m. m.0, λ m. (m, omega (arith, linear, mul_pos i.0 h, mul_nonneg (le_of_lt i.1) k)))

pub never_positive : (p : Part) (a b : ℤ) → a ≤ℤ pos 0 → b ≤ℤ pos 0 → IsWherePositive p a b None
never_positive p a b h k z i v = omega (arith, linear, mul_nonneg_nonpos (le_of_lt i.0) h, mul_nonneg_nonpos (le_of_lt i.1) k)

-- ---- from the tests of the code
pub not_positive : (a : ℤ) → (pos 0 <ℤ a → false ≡ true) → a ≤ℤ pos 0
not_positive a h = elim (le_or_lt a (pos 0)) [
  | inl k ↦ k
  | inr k ↦ let e = h k in absurd (cc)
]

pub not_negative : (a : ℤ) → (a <ℤ pos 0 → false ≡ true) → pos 0 ≤ℤ a
not_negative a h = elim (le_or_lt (pos 0) a) [
  | inl k ↦ k
  | inr k ↦ let e = h k in absurd (cc)
]

-- ---- where the value is not negative
pub rises_not_negative : (p : Part) (a b : ℤ) → IsFraction p.from → a <ℤ pos 0 → pos 0 ≤ℤ b → IsWhereNotNegative p a b (from_later p (balance (neg_ℤ a) b))
rises_not_negative p a b hp h k z hz =
    let g = closed_from p (balance (neg_ℤ a) b) hp (omega (arith, linear)) (fraction_at z) hz.some in (
      λ m. let v = m.1 in g.0 (m.0, omega (arith, linear, rises_is a b z)),
      λ m. let n = g.1 m in let v = n.1 in (n.0, omega (arith, linear, rises_is a b z)),
    )

pub falls_not_negative : (p : Part) (a b : ℤ) → IsFraction p.to → pos 0 ≤ℤ a → b <ℤ pos 0 → IsWhereNotNegative p a b (to_earlier p (balance a (neg_ℤ b)))
falls_not_negative p a b hp h k z hz =
    let g = closed_upto p (balance a (neg_ℤ b)) hp (omega (arith, linear)) (fraction_at z) hz.some in (
      λ m. let v = m.1 in g.0 (m.0, omega (arith, linear, falls_is a b z)),
      λ m. let n = g.1 m in let v = n.1 in (n.0, omega (arith, linear, falls_is a b z)),
    )

pub never_not_negative : (p : Part) (a b : ℤ) → a <ℤ pos 0 → b <ℤ pos 0 → IsWhereNotNegative p a b nowhere
never_not_negative p a b h k z hz = (λ m. absurd (negative m.1), λ m. absurd (omega (arith, linear, m.0, m.1, hz.some, one_mul (z.s +ℤ z.t), zero_mul (z.s +ℤ z.t))))
  where
    negative : pos 0 ≤ℤ value_at a b z → ⊥
    negative v = elim (sign_of z.s) [
      | is_positive i ↦ omega (arith, linear, v, mul_pos_neg i h, mul_nonneg_nonpos hz.second (le_of_lt k))
      | is_negative i ↦ omega (arith, linear, i, hz.first)
      | is_zero e ↦ let j : pos 0 <ℤ z.t = omega (arith, linear, e, hz.some) in omega (arith, linear, v, zero_of_mul_left z.s a e, mul_pos_neg j k)
    ]
