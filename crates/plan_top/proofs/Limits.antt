-- A number that is read is from 1 to its limit: a first digit is not 0, and more digits make a number no smaller.
use Rattle.std.proofs.Common.{◌≡◌, ◌≤◌, ℕ, ◌+◌, ◌-◌, ◌*◌, List, [], ◌∷◌, Bool, true, false, nat_le, ◌==◌, Some, None, if◌then◌else◌, refl, arith}
use Rattle.std.specs.Prelude.{Option, option_and_then}
use Rattle.std.proofs.lemmas.Bool.{leb-true}
use Rattle.std.proofs.lemmas.Bool.Decides.{nat_tests}
use Rattle.plan_top.specs.Command.{IsUpTo, is_digit, with_digits, at_most, number_of, number_up_to}

no_smaller : (n m : ℕ) (bs : List ℕ) → with_digits n bs ≡ Some m → n ≤ m
no_smaller n m [] h = let e : n ≡ m = cc in omega arith
no_smaller n m (b ∷ bs) h = by (is_digit b) (λ k. no_smaller (10 * n + (b - 48)) m bs k) h
  where
    by : (t : Bool) → (with_digits (10 * n + (b - 48)) bs ≡ Some m → 10 * n + (b - 48) ≤ m) → (if t then with_digits (10 * n + (b - 48)) bs else None) ≡ Some m → n ≤ m
    by true more k = let least = more k in omega arith
    by false more k = absurd cc

-- a first digit that is not 0
first_digit : (b : ℕ) → (b == 48) ≡ false → is_digit b ≡ true → 1 ≤ b - 48
first_digit b other digit = grind (arith, nat_tests)

positive : (word : List ℕ) (m : ℕ) → number_of word ≡ Some m → 1 ≤ m
positive [] m h = absurd cc
positive (b ∷ bs) m h = by (b == 48) refl (is_digit b) refl h
  where
    by : (t : Bool) → (b == 48) ≡ t → (u : Bool) → is_digit b ≡ u → (if t then None else if u then with_digits (10 * 0 + (b - 48)) bs else None) ≡ Some m → 1 ≤ m
    by true e u f k = absurd cc
    by false e true f k = let more = no_smaller (10 * 0 + (b - 48)) m bs k in let least = first_digit b e f in omega arith
    by false e false f k = absurd cc

pub bounded : (limit : ℕ) (word : List ℕ) (m : ℕ) → number_up_to limit word ≡ Some m → IsUpTo limit m
bounded limit word m h = by (number_of word) refl h
  where
    by : (o : Option ℕ) → number_of word ≡ o → option_and_then (at_most limit) o ≡ Some m → IsUpTo limit m
    by None e k = absurd cc
    by (Some n) e k = within (nat_le n limit) refl k
      where
        within : (t : Bool) → nat_le n limit ≡ t → (if t then Some n else None) ≡ Some m → IsUpTo limit m
        within true small same = let is : n ≡ m = cc in let least = positive word n e in let most = leb-true n limit small in (omega arith, omega arith)
        within false small same = absurd cc
