-- Inequalities between polynomials, by certificates: a fact known of expressions, made of others by sums and products, gives another as soon as the two are one polynomial, up to a positive factor.
use Rattle.std.proofs.Common.{◌≡◌, ℤ, pos, ◌-ℤ◌, ◌*ℤ◌, ◌≤ℤ◌, ◌<ℤ◌, T, List, sym, ap, ◌∙◌, subst, arith}
use Rattle.std.proofs.lemmas.Int.{ints}
use Rattle.plan_exact.specs.Expr.{Expr, con, ◌⊕◌, ◌⊖◌, ◌⊗◌, eval, same}
use Rattle.plan_exact.proofs.Laws.{linear}
use Rattle.plan_exact.proofs.Ring.{ring}
use Rattle.plan_exact.proofs.Signs.{mul_nonneg, mul_zero, nonneg_of_mul, pos_of_mul, zero_of_mul}

pub record NonNegative (xs : List ℤ) (e : Expr) : Type 0 where
  pub nonneg : pos 0 ≤ℤ eval xs e

pub record Positive (xs : List ℤ) (e : Expr) : Type 0 where
  pub positive : pos 0 <ℤ eval xs e

pub record Zero (xs : List ℤ) (e : Expr) : Type 0 where
  pub zero : eval xs e ≡ pos 0

-- ---- a fact on integers, as one on expressions
pub from_le : (xs : List ℤ) (a b : Expr) → eval xs a ≤ℤ eval xs b → NonNegative xs (b ⊖ a)
from_le xs a b h = record { nonneg = omega (arith, linear) }

pub from_eq : (xs : List ℤ) (a b : Expr) → eval xs a ≡ eval xs b → Zero xs (a ⊖ b)
from_eq xs a b h = record { zero = omega (arith, linear) }

pub one : (xs : List ℤ) → Positive xs (con (pos 1))
one xs = record { positive = omega (arith, ints) }

-- ---- sums and products

pub add : {xs : List ℤ} {a b : Expr} → NonNegative xs a → NonNegative xs b → NonNegative xs (a ⊕ b)
add p q = let h = p.nonneg in let k = q.nonneg in record { nonneg = omega (arith, linear) }

pub add_zero : {xs : List ℤ} {a b : Expr} → Zero xs a → Zero xs b → Zero xs (a ⊕ b)
add_zero p q = let h = p.zero in let k = q.zero in record { zero = omega (arith, linear) }

pub multiply : {xs : List ℤ} {a b : Expr} → NonNegative xs a → NonNegative xs b → NonNegative xs (a ⊗ b)
multiply p q = record { nonneg = mul_nonneg p.nonneg q.nonneg }

-- a multiple of what is 0, by anything
pub multiple : {xs : List ℤ} {a : Expr} (e : Expr) → Zero xs a → Zero xs (e ⊗ a)
multiple {xs} e p = record { zero = ap (λ y. eval xs e *ℤ y) p.zero ∙ mul_zero (eval xs e) }

pub nonneg_of_zero : {xs : List ℤ} {a : Expr} → Zero xs a → NonNegative xs a
nonneg_of_zero p = let h = p.zero in record { nonneg = omega (arith, linear) }

-- ---- what follows: s times the difference is c, for a positive s (`one xs`, if none is needed)
pub le_by : {xs : List ℤ} {s c : Expr} → Positive xs s → NonNegative xs c → (a b : Expr) → T (same (s ⊗ (b ⊖ a)) c) → eval xs a ≤ℤ eval xs b
le_by {xs} {s} {c} p q a b t =
    let e = ring xs (s ⊗ (b ⊖ a)) c t in
    let h : pos 0 ≤ℤ (eval xs s *ℤ (eval xs b -ℤ eval xs a)) = subst (λ y. pos 0 ≤ℤ y) (sym e) q.nonneg in
    omega (arith, linear, nonneg_of_mul p.positive h)

pub lt_by : {xs : List ℤ} {s c : Expr} → Positive xs s → Positive xs c → (a b : Expr) → T (same (s ⊗ (b ⊖ a)) c) → eval xs a <ℤ eval xs b
lt_by {xs} {s} {c} p q a b t =
    let e = ring xs (s ⊗ (b ⊖ a)) c t in
    let h : pos 0 <ℤ (eval xs s *ℤ (eval xs b -ℤ eval xs a)) = subst (λ y. pos 0 <ℤ y) (sym e) q.positive in
    omega (arith, linear, pos_of_mul p.positive h)

pub eq_by : {xs : List ℤ} {s c : Expr} → Positive xs s → Zero xs c → (a b : Expr) → T (same (s ⊗ (a ⊖ b)) c) → eval xs a ≡ eval xs b
eq_by {xs} {s} {c} p q a b t =
    let e = ring xs (s ⊗ (a ⊖ b)) c t in
    omega (arith, linear, zero_of_mul (eval xs s) (eval xs a -ℤ eval xs b) p.positive (e ∙ q.zero))

-- what is positive is not 0
pub absurd_by : {xs : List ℤ} {c : Expr} → Positive xs c → T (same c (con (pos 0))) → ⊥
absurd_by {xs} {c} p t = let h = p.positive in omega (arith, linear, ring xs c (con (pos 0)) t)

-- ---- the same with the certificate written as an expression c, whose sign the caller shows, as by `search signs`
pub le_from : (xs : List ℤ) (s c a b : Expr) → T (same (s ⊗ (b ⊖ a)) c) → pos 0 <ℤ eval xs s → pos 0 ≤ℤ eval xs c → eval xs a ≤ℤ eval xs b
le_from xs s c a b t p q = le_by {s = s} {c = c} (record { positive = p }) (record { nonneg = q }) a b t

pub lt_from : (xs : List ℤ) (s c a b : Expr) → T (same (s ⊗ (b ⊖ a)) c) → pos 0 <ℤ eval xs s → pos 0 <ℤ eval xs c → eval xs a <ℤ eval xs b
lt_from xs s c a b t p q = lt_by {s = s} {c = c} (record { positive = p }) (record { positive = q }) a b t

pub eq_from : (xs : List ℤ) (s c a b : Expr) → T (same (s ⊗ (a ⊖ b)) c) → pos 0 <ℤ eval xs s → eval xs c ≡ pos 0 → eval xs a ≡ eval xs b
eq_from xs s c a b t p q = eq_by {s = s} {c = c} (record { positive = p }) (record { zero = q }) a b t
