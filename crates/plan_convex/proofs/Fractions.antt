-- The order of fractions with positive denominators, as `AtMost` and `Less` say it: by cross products.
use Rattle.std.proofs.Common.{◌≡◌, ◌⊎◌, pos, ◌*ℤ◌, ◌<ℤ◌, true, false, arith}
use Rattle.plan_exact.proofs.Fractions.{le_trans, lt_le_trans, le_lt_trans}
use Rattle.plan_exact.proofs.Laws.{linear, zero_mul, one_mul}
use Rattle.plan_exact.proofs.Signs.{le_or_lt}
use Rattle.plan_exact.proofs.Tests.{le_from_true, lt_from_false}
use Rattle.plan_grid.specs.Fraction.{Fraction}
use Rattle.plan_convex.specs.Parameter.{AtMost, Less, at_most, IsShare, zero, one}

abbrev pub IsFraction : Fraction → Type 0
IsFraction f = pos 0 <ℤ f.den

pub at_most_trans : (x y z : Fraction) → IsFraction x → IsFraction y → IsFraction z → AtMost x y → AtMost y z → AtMost x z
at_most_trans x y z hx hy hz h k = le_trans x.num x.den y.num y.den z.num z.den hx hy hz h k

pub less_at_most : (x y z : Fraction) → IsFraction x → IsFraction y → IsFraction z → Less x y → AtMost y z → Less x z
less_at_most x y z hx hy hz h k = lt_le_trans x.num x.den y.num y.den z.num z.den hx hy hz h k

pub at_most_less : (x y z : Fraction) → IsFraction x → IsFraction y → IsFraction z → AtMost x y → Less y z → Less x z
at_most_less x y z hx hy hz h k = le_lt_trans x.num x.den y.num y.den z.num z.den hx hy hz h k

pub weak : (x y : Fraction) → Less x y → AtMost x y
weak x y h = omega (arith, linear)

pub not_both : (x y : Fraction) → AtMost x y → Less y x → ⊥
not_both x y h k = omega (arith, linear)

pub at_most_or_less : (x y : Fraction) → AtMost x y ⊎ Less y x
at_most_or_less x y = le_or_lt (x.num *ℤ y.den) (y.num *ℤ x.den)

-- ---- the test
pub at_most_true : (x y : Fraction) → at_most x y ≡ true → AtMost x y
at_most_true x y e = le_from_true (x.num *ℤ y.den) (y.num *ℤ x.den) e

pub at_most_false : (x y : Fraction) → at_most x y ≡ false → Less y x
at_most_false x y e = lt_from_false (x.num *ℤ y.den) (y.num *ℤ x.den) e

-- ---- from 0 to 1
pub zero_share : IsShare zero
zero_share = record { positive = omega (arith, linear); nonneg = omega (arith, linear); upto = omega (arith, linear) }

pub one_share : IsShare one
one_share = record { positive = omega (arith, linear); nonneg = omega (arith, linear); upto = omega (arith, linear) }

pub share_from : (f : Fraction) → IsShare f → AtMost zero f
share_from f h = omega (arith, linear, h.nonneg, zero_mul f.den)

pub share_upto : (f : Fraction) → IsShare f → AtMost f one
share_upto f h = omega (arith, linear, h.upto, one_mul f.den)
