-- The two ends of a side of a page's box, as the code takes them: their difference and their sum.
use Rattle.std.proofs.Common.{◌≡◌, ℤ, pos, neg_ℤ, ◌+ℤ◌, ◌-ℤ◌, ◌<ℤ◌, ◌≤ℤ◌, SFits, to_z, of_z, to_z-of_z, w32, w64, refl, arith}
use Rattle.std.proofs.lemmas.Int.{ints}

pub difference : (a b p q : ℤ) → p ≡ to_z w32 (of_z w32 a) → q ≡ to_z w32 (of_z w32 b) → neg_ℤ (pos 3069) ≤ℤ b → b <ℤ a → a ≤ℤ pos 3069
    → to_z w64 (of_z w64 (to_z w64 (of_z w64 p) -ℤ to_z w64 (of_z w64 q))) ≡ a -ℤ b
difference a b p q is_p is_q low less high =
    let a32 : SFits w32 a = omega (arith, ints, low, less, high) in
    let b32 : SFits w32 b = omega (arith, ints, low, less, high) in
    let a64 : SFits w64 a = omega (arith, ints, low, less, high) in
    let b64 : SFits w64 b = omega (arith, ints, low, less, high) in
    let all : SFits w64 (a -ℤ b) = omega (arith, ints, low, less, high) in
    rw (is_p, is_q, to_z-of_z a32, to_z-of_z b32, to_z-of_z a64, to_z-of_z b64, to_z-of_z all) refl

pub sum : (a b p q : ℤ) → p ≡ to_z w32 (of_z w32 a) → q ≡ to_z w32 (of_z w32 b) → neg_ℤ (pos 3069) ≤ℤ a → a <ℤ b → b ≤ℤ pos 3069
    → to_z w64 (of_z w64 (to_z w64 (of_z w64 p) +ℤ to_z w64 (of_z w64 q))) ≡ a +ℤ b
sum a b p q is_p is_q low less high =
    let a32 : SFits w32 a = omega (arith, ints, low, less, high) in
    let b32 : SFits w32 b = omega (arith, ints, low, less, high) in
    let a64 : SFits w64 a = omega (arith, ints, low, less, high) in
    let b64 : SFits w64 b = omega (arith, ints, low, less, high) in
    let all : SFits w64 (a +ℤ b) = omega (arith, ints, low, less, high) in
    rw (is_p, is_q, to_z-of_z a32, to_z-of_z b32, to_z-of_z a64, to_z-of_z b64, to_z-of_z all) refl
