-- Facts that are decided: each holds or does not, and which of the two is computed.
use Rattle.std.proofs.Common.{◌≡◌, ◌⊎◌, inl, inr, ℤ, pos, ◌*ℤ◌, ◌≤ℤ◌, ◌<ℤ◌, arith}
use Rattle.plan_exact.specs.Sign.{Order, is_less, is_equal, is_greater}
use Rattle.plan_exact.proofs.Laws.{linear}
use Rattle.plan_exact.proofs.Signs.{order_of, le_or_lt}
use Rattle.plan_spec.specs.Vector.{Vector, turn}
use Rattle.plan_spec.specs.Segment.{Segment, On}

abbrev pub Decided : Type 0 → Type 0
Decided P = P ⊎ (¬ P)

pub decided_by : {P Q : Type 0} → (P → Q) → (Q → P) → Decided P → Decided Q
decided_by f g (inl p) = inl (f p)
decided_by f g (inr n) = inr (λ q. n (g q))

pub both_decided : {P Q : Type 0} → Decided P → Decided Q → Decided (P × Q)
both_decided (inl p) (inl q) = inl (p, q)
both_decided (inl p) (inr n) = inr (λ h. n h.1)
both_decided (inr n) q = inr (λ h. n h.0)

pub either_decided : {P Q : Type 0} → Decided P → Decided Q → Decided (P ⊎ Q)
either_decided (inl p) q = inl (inl p)
either_decided (inr n) (inl q) = inl (inr q)
either_decided {P} {Q} (inr n) (inr m) = inr neither
  where
    neither : P ⊎ Q → ⊥
    neither (inl p) = n p
    neither (inr q) = m q

pub le_decided : (x y : ℤ) → Decided (x ≤ℤ y)
le_decided x y = by (le_or_lt x y)
  where
    by : (x ≤ℤ y) ⊎ (y <ℤ x) → Decided (x ≤ℤ y)
    by (inl h) = inl h
    by (inr h) = inr (λ k. omega (arith, linear))

pub eq_decided : (x y : ℤ) → Decided (x ≡ y)
eq_decided x y = by (order_of x y)
  where
    by : Order x y → Decided (x ≡ y)
    by (is_less h) = inr (λ k. omega (arith, linear))
    by (is_equal e) = inl e
    by (is_greater h) = inr (λ k. omega (arith, linear))

between_decided : (a k z m b l : ℤ) → Decided ((((a *ℤ m) ≤ℤ (z *ℤ k)) × ((z *ℤ l) ≤ℤ (b *ℤ m))) ⊎ (((b *ℤ m) ≤ℤ (z *ℤ l)) × ((z *ℤ k) ≤ℤ (a *ℤ m))))
between_decided a k z m b l =
    either_decided (both_decided (le_decided (a *ℤ m) (z *ℤ k)) (le_decided (z *ℤ l) (b *ℤ m))) (both_decided (le_decided (b *ℤ m) (z *ℤ l)) (le_decided (z *ℤ k) (a *ℤ m)))

pub on_decided : (s : Segment) (z : Vector) → Decided (On s z)
on_decided s z =
    decided_by (λ h. record { in_line = h.0; within_x = h.1.0; within_y = h.1.1 }) (λ h. (h.in_line, (h.within_x, h.within_y)))
    (both_decided (eq_decided (turn s.a s.b z) (pos 0)) (both_decided (between_decided s.a.x s.a.w z.x z.w s.b.x s.b.w) (between_decided s.a.y s.a.w z.y z.w s.b.y s.b.w)))
