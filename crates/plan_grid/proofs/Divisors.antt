-- Division by a common divisor: the quotient is exact, and after the greatest one no divisor is left.
use Rattle.std.proofs.Common.{◌≡◌, ℕ, ℤ, pos, negsuc, neg_ℤ, ◌*ℤ◌, unsigned_abs, ap, arith}
use Rattle.std.specs.Int.{◌∣◌}
use Rattle.std.specs.Int.RustNames.{int_div, int_rem}
use Rattle.std.proofs.lemmas.Int.{ints, quot-rem}
use Rattle.std.proofs.lemmas.Nat.Gcd.{mod-eq-zero_of_dvd}

rem_zero : (a : ℤ) (d : ℕ) → d ∣ unsigned_abs a → int_rem a (pos d) ≡ pos 0
rem_zero (pos n) d h = ap pos (mod-eq-zero_of_dvd d h)
rem_zero (negsuc n) d h = ap (λ r. neg_ℤ (pos r)) (mod-eq-zero_of_dvd d h)

pub quotient_is_exact : (a : ℤ) (d : ℕ) → d ∣ unsigned_abs a → int_div a (pos d) *ℤ pos d ≡ a
quotient_is_exact a d h =
    let r = rem_zero a d h in
    let q = quot-rem a (pos d) in
    omega (arith, ints)
