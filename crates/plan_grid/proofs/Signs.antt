-- What the tests of an `Ordering` tell of the number whose sign it is, and of two numbers whose order it is.
use Rattle.std.proofs.Common.{◌≡◌, ◌↔◌, ℤ, pos, ◌≤ℤ◌, ◌<ℤ◌, false, IsTrue, refl, arith}
use Rattle.std.specs.Ordering.{is_lt, is_gt}
use Rattle.std.specs.declared.cmp.Ordering.{Ordering}
use Rattle.std.specs.declared.cmp.Ordering.TheVariants.{Less, Equal, Greater}
use Rattle.plan_exact.proofs.Laws.{linear}
use Rattle.plan_grid.specs.Order.{IsOrder, IsSign}

pub less_is_negative : (o : Ordering) (a : ℤ) → IsSign o a → IsTrue (is_lt o) ↔ (a <ℤ pos 0)
less_is_negative Less a h = (λ t. h, λ l. refl)
less_is_negative Equal a h = (λ t. absurd (cc), λ l. absurd (omega (arith, linear)))
less_is_negative Greater a h = (λ t. absurd (cc), λ l. absurd (omega (arith, linear)))

pub not_less : (o : Ordering) (a b : ℤ) → IsOrder o a b → is_lt o ≡ false → b ≤ℤ a
not_less Less a b h e = absurd (cc)
not_less Equal a b h e = omega (arith, linear)
not_less Greater a b h e = omega (arith, linear)

pub is_less : (o : Ordering) (a b : ℤ) → IsOrder o a b → IsTrue (is_lt o) ↔ (a <ℤ b)
is_less Less a b h = (λ t. h, λ l. refl)
is_less Equal a b h = (λ t. absurd (cc), λ l. absurd (omega (arith, linear)))
is_less Greater a b h = (λ t. absurd (cc), λ l. absurd (omega (arith, linear)))

pub is_greater : (o : Ordering) (a b : ℤ) → IsOrder o a b → IsTrue (is_gt o) ↔ (b <ℤ a)
is_greater Less a b h = (λ t. absurd (cc), λ l. absurd (omega (arith, linear)))
is_greater Equal a b h = (λ t. absurd (cc), λ l. absurd (omega (arith, linear)))
is_greater Greater a b h = (λ t. h, λ l. refl)
