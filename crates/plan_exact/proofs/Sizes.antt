-- What fits 128 bits, and how large sums and products are: for the overflow goals of `Whole`, and for those who compute with it.
use Rattle.std.proofs.Common.{ℕ, ◌+◌, ◌*◌, ◌<◌, ◌≤◌, ◌^◌, ℤ, ◌+ℤ◌, ◌-ℤ◌, ◌*ℤ◌, neg_ℤ, FitsSigned, arith}
use Rattle.std.proofs.lemmas.Int.{ints, unsigned_abs-mul, fits_signed_from_abs}
use Rattle.std.specs.Int.{w128}
use Rattle.std.specs.Int.RustNames.{unsigned_abs}

pub fits_sum : (a b : ℤ) → unsigned_abs a + unsigned_abs b < 2 ^ 127 → FitsSigned w128 (a +ℤ b)
fits_sum a b h = omega (arith, ints)

pub fits_difference : (a b : ℤ) → unsigned_abs a + unsigned_abs b < 2 ^ 127 → FitsSigned w128 (a -ℤ b)
fits_difference a b h = omega (arith, ints)

pub fits_product : (a b : ℤ) → unsigned_abs a * unsigned_abs b < 2 ^ 127 → FitsSigned w128 (a *ℤ b)
fits_product a b h = fits_signed_from_abs w128 (a *ℤ b) (omega (arith, unsigned_abs-mul a b, h))

pub fits_opposite : (a : ℤ) → unsigned_abs a < 2 ^ 127 → FitsSigned w128 (neg_ℤ a)
fits_opposite a h = omega (arith, ints)

pub ruleset sizes = (fits_sum, fits_difference, fits_product, fits_opposite)

-- a product is at most the product of what bounds its factors
pub product_at_most : (a b m n : ℕ) → a ≤ m → b ≤ n → a * b ≤ m * n
product_at_most a b m n h k = grind arith
