-- Lists in the other order: what holds of all elements, or of all pairs, stays.
use Rattle.std.proofs.Common.{List, [], ◌∷◌, ◌++◌, All, get_or, ◌≡◌, length, length-append, refl, arith, ap, reverse, sym, ◌∙◌}
use Rattle.std.proofs.lemmas.Grind.{reverse_onto}
use Rattle.std.proofs.lemmas.List.Elements.{All-nil, All-cons, All-head, All-tail, All-append}
use Rattle.plan_plane.proofs.Pairs.{Pairs, Across, pairs_join}

-- ---- lists in the other order
abbrev pub back : {X : Type 0} → List X → List X
back [] = []
back (x ∷ xs) = back xs ++ x ∷ []

pub all_back : {X : Type 0} (P : X → Type 0) (xs : List X) → All P xs → All P (back xs)
all_back P [] h = All-nil P
all_back P (x ∷ xs) h = All-append P (back xs) (x ∷ []) (all_back P xs (All-tail P x xs h)) (All-cons P x [] (All-head P x xs h) (All-nil P))

pub pairs_back : {X : Type 0} (R : X → X → Type 0) → ((x y : X) → R x y → R y x) → (xs : List X) → Pairs R xs → Pairs R (back xs)
pairs_back R turn [] h = tt
pairs_back {X} R turn (x ∷ xs) h = pairs_join R (back xs) (x ∷ []) (pairs_back R turn xs h.1) (All-nil (R x), tt) last
  where
    last : Across R (back xs) (x ∷ [])
    last k d within = All-cons (R (get_or (back xs) k d)) x [] (turn x (get_or (back xs) k d) (all_back (R x) xs h.0 k d within)) (All-nil (R (get_or (back xs) k d)))

pub length_back : {X : Type 0} (xs : List X) → length (back xs) ≡ length xs
length_back [] = refl
length_back (x ∷ xs) = omega (arith, length-append (back xs) (x ∷ []), length_back xs)

pub back_append : {X : Type 0} (xs : List X) (x : X) → back (xs ++ x ∷ []) ≡ x ∷ back xs
back_append [] x = refl
back_append (y ∷ xs) x = ap (λ zs. zs ++ y ∷ []) (back_append xs x)

pub back_is : {X : Type 0} (xs : List X) → back xs ≡ reverse xs
back_is [] = refl
back_is (x ∷ xs) = ap (λ zs. zs ++ x ∷ []) (back_is xs) ∙ sym (reverse_onto xs x [])
