-- Beginnings of one list: which of two begins the other is told by their lengths, and one as long as the list is the list.
use Rattle.std.proofs.Common.{◌≡◌, ℕ, ◌+◌, ◌≤◌, Bool, true, false, List, [], ◌∷◌, length, MatchBool, refl, arith}
use Rattle.std.proofs.lemmas.Bool.Decides.{nat_tests}
use mathlib.Core.List.{IsPrefix}
use lib.Dec.{leb}

-- of two beginnings of one list the shorter begins the longer
prefix_shorter : {A : Type 0} (xs ys zs : List A) → IsPrefix xs zs → IsPrefix ys zs → length xs ≤ length ys → IsPrefix xs ys
prefix_shorter [] ys zs p q le = (ys, refl)
prefix_shorter (x ∷ xs) [] zs p q le = absurd (omega arith)
prefix_shorter (x ∷ xs) (y ∷ ys) [] p q le = absurd (cc (p.1))
prefix_shorter (x ∷ xs) (y ∷ ys) (z ∷ zs) p q le =
    let heads : x ≡ y = cc (p.1, q.1) in
    let rest = prefix_shorter xs ys zs (p.0, cc (p.1)) (q.0, cc (q.1)) (omega arith) in
    (rest.0, cc (heads, rest.1))

by_length : {A : Type 0} (xs ys zs : List A) (a b : ℕ) → length xs ≡ a + 1 → length ys ≡ b + 1 → IsPrefix xs zs → IsPrefix ys zs → (t : Bool) → leb a b ≡ t → MatchBool t (IsPrefix xs ys) (IsPrefix ys xs)
by_length xs ys zs a b m n p q true is = let le : a ≤ b = grind (arith, nat_tests) in prefix_shorter xs ys zs p q (omega arith)
by_length xs ys zs a b m n p q false is = let le : b ≤ a = grind (arith, nat_tests) in prefix_shorter ys xs zs q p (omega arith)

-- which of two beginnings begins the other is told by their last places
pub ordered : {A : Type 0} (xs ys zs : List A) (a b : ℕ) → length xs ≡ a + 1 → length ys ≡ b + 1 → IsPrefix xs zs → IsPrefix ys zs → MatchBool (leb a b) (IsPrefix xs ys) (IsPrefix ys xs)
ordered xs ys zs a b m n p q = by_length xs ys zs a b m n p q (leb a b) refl

-- a beginning as long as the whole is the whole
pub prefix_whole : {A : Type 0} (xs ys : List A) → IsPrefix xs ys → length ys ≤ length xs → xs ≡ ys
prefix_whole [] [] p le = refl
prefix_whole [] (y ∷ ys) p le = absurd (omega arith)
prefix_whole (x ∷ xs) [] p le = absurd (cc (p.1))
prefix_whole (x ∷ xs) (y ∷ ys) p le =
    let rest = prefix_whole xs ys (p.0, cc (p.1)) (omega arith) in cc (p.1, rest)
