-- What a test of two integers answers, from their order, and what its answer says of it.
use Rattle.std.proofs.Common.{◌≡◌, inl, inr, ℤ, ◌≤ℤ◌, ◌<ℤ◌, Bool, true, false, not, int_lt, int_le, Decides, refl, arith}
use Rattle.std.proofs.lemmas.Bool.Decides.{same_from_decides}
use Rattle.std.proofs.lemmas.Int.{ints}
use Rattle.plan_exact.proofs.Signs.{le_or_lt}

-- ---- from the order
pub le_true : {x y : ℤ} → x ≤ℤ y → int_le x y ≡ true
le_true h = grind (arith, ints)

pub le_false : {x y : ℤ} → y <ℤ x → int_le x y ≡ false
le_false h = grind (arith, ints)

pub lt_true : {x y : ℤ} → x <ℤ y → int_lt x y ≡ true
lt_true h = grind (arith, ints)

pub lt_false : {x y : ℤ} → y ≤ℤ x → int_lt x y ≡ false
lt_false h = grind (arith, ints)

-- ---- from the answer
pub lt_from_true : (x y : ℤ) → int_lt x y ≡ true → x <ℤ y
lt_from_true x y e = omega (arith, ints)

pub le_from_false : (x y : ℤ) → int_lt x y ≡ false → y ≤ℤ x
le_from_false x y e = omega (arith, ints)

pub le_from_true : (x y : ℤ) → int_le x y ≡ true → x ≤ℤ y
le_from_true x y e = omega (arith, ints)

pub lt_from_false : (x y : ℤ) → int_le x y ≡ false → y <ℤ x
lt_from_false x y e = omega (arith, ints)

-- ---- so it decides it, and any other answer that decides the same is this one
pub Decides-int_lt : (x y : ℤ) → Decides (int_lt x y) (x <ℤ y)
Decides-int_lt x y = (lt_from_true x y, λ h. lt_true h)

pub lt_is : (r : Bool) (x y : ℤ) → Decides r (x <ℤ y) → int_lt x y ≡ r
lt_is r x y h = same_from_decides (int_lt x y) r (Decides-int_lt x y) h

pub le_is_not : (r : Bool) (x y : ℤ) → Decides r (y <ℤ x) → int_le x y ≡ not r
le_is_not true x y h = le_false (h.0 refl)
le_is_not false x y h =
    elim (le_or_lt x y) [
      | inl k ↦ le_true k
      | inr k ↦ let e = h.1 k in absurd (cc)
    ]
