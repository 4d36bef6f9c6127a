-- Lists whose elements are related each to each later one: appended, parted, in another order, and by number.
use Rattle.std.proofs.Common.{List, All, [], ◌∷◌, ◌++◌, get_or, ℕ, suc, ◌<◌, length, arith, zero}
use Rattle.std.proofs.lemmas.List.Elements.{All-nil, All-cons, All-head, All-tail, All-append}
use Rattle.std.specs.Prelude.{List, [], ◌∷◌, All}
use Rattle.plan_plane.proofs.Lists.{all_left, all_right}

-- each before each later one
abbrev pub Pairs : {X : Type 0} → (X → X → Type 0) → List X → Type 0
Pairs R [] = Unit {0}
Pairs R (x ∷ xs) = All (R x) xs × Pairs R xs

-- each of xs is related to each of ys
abbrev pub Across : {X : Type 0} → (X → X → Type 0) → List X → List X → Type 0
Across R xs ys = All (λ x. All (R x) ys) xs

pub pairs_left : {X : Type 0} (R : X → X → Type 0) (xs ys : List X) → Pairs R (xs ++ ys) → Pairs R xs
pairs_left R [] ys h = tt
pairs_left R (x ∷ xs) ys h = (all_left (R x) xs ys h.0, pairs_left R xs ys h.1)

pub pairs_right : {X : Type 0} (R : X → X → Type 0) (xs ys : List X) → Pairs R (xs ++ ys) → Pairs R ys
pairs_right R [] ys h = h
pairs_right R (x ∷ xs) ys h = pairs_right R xs ys h.1

pub pairs_across : {X : Type 0} (R : X → X → Type 0) (xs ys : List X) → Pairs R (xs ++ ys) → Across R xs ys
pairs_across R [] ys h = All-nil (λ x. All (R x) ys)
pairs_across R (x ∷ xs) ys h = All-cons (λ x. All (R x) ys) x xs (all_right (R x) xs ys h.0) (pairs_across R xs ys h.1)

pub pairs_join : {X : Type 0} (R : X → X → Type 0) (xs ys : List X) → Pairs R xs → Pairs R ys → Across R xs ys → Pairs R (xs ++ ys)
pairs_join R [] ys h k a = k
pairs_join R (x ∷ xs) ys h k a =
    (All-append (R x) xs ys h.0 (All-head (λ x. All (R x) ys) x xs a), pairs_join R xs ys h.1 k (All-tail (λ x. All (R x) ys) x xs a))

pub across_swapped : {X : Type 0} (R : X → X → Type 0) → ((x y : X) → R x y → R y x) → (xs ys : List X) → Across R xs ys → Across R ys xs
across_swapped R turn xs ys h k d within j e below = turn (get_or xs j e) (get_or ys k d) (h j e below k d within)

pub pairs_swapped : {X : Type 0} (R : X → X → Type 0) → ((x y : X) → R x y → R y x) → (xs ys : List X) → Pairs R (xs ++ ys) → Pairs R (ys ++ xs)
pairs_swapped R turn xs ys h = pairs_join R ys xs (pairs_right R xs ys h) (pairs_left R xs ys h) (across_swapped R turn xs ys (pairs_across R xs ys h))

-- ---- pairs by number
pub pairs_from : {X : Type 0} (R : X → X → Type 0) (xs : List X) → ((i j : ℕ) (d : X) → i < j → j < length xs → R (get_or xs i d) (get_or xs j d)) → Pairs R xs
pairs_from R [] h = tt
pairs_from R (x ∷ xs) h = (λ k d within. h 0 (suc k) d (omega arith) (omega arith), pairs_from R xs (λ i j d less within. h (suc i) (suc j) d (omega arith) (omega arith)))

pub pairs_at : {X : Type 0} (R : X → X → Type 0) (xs : List X) → Pairs R xs → (i j : ℕ) (d : X) → i < j → j < length xs → R (get_or xs i d) (get_or xs j d)
pairs_at R [] h i j d less within = absurd (omega arith)
pairs_at R (x ∷ xs) h zero zero d less within = absurd (omega arith)
pairs_at R (x ∷ xs) h zero (suc j) d less within = h.0 j d (omega arith)
pairs_at R (x ∷ xs) h (suc i) zero d less within = absurd (omega arith)
pairs_at R (x ∷ xs) h (suc i) (suc j) d less within = pairs_at R xs h.1 i j d (omega arith) (omega arith)
