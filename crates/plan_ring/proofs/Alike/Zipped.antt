-- Two lists that correspond place by place: mapped, and what all elements have.
use Rattle.std.proofs.Common.{List, [], ◌∷◌, map, All}
use Rattle.std.proofs.lemmas.List.Elements.{All-nil, All-cons, All-head, All-tail}
use Rattle.std.specs.List.{AllZip}

pub zip_mapped : {X Y U V : Type 0} (R : X → Y → Type 0) (S : U → V → Type 0) (f : X → U) (g : Y → V) → ((x : X) (y : Y) → R x y → S (f x) (g y)) → (xs : List X) (ys : List Y) → AllZip R xs ys → AllZip S (map f xs) (map g ys)
zip_mapped R S f g to [] [] h = tt
zip_mapped R S f g to [] (y ∷ ys) h = absurd h
zip_mapped R S f g to (x ∷ xs) [] h = absurd h
zip_mapped R S f g to (x ∷ xs) (y ∷ ys) h = (to x y h.0, zip_mapped R S f g to xs ys h.1)

-- of one list with itself
pub zip_same : {X : Type 0} (R : X → X → Type 0) → ((x : X) → R x x) → (xs : List X) → AllZip R xs xs
zip_same R f [] = tt
zip_same R f (x ∷ xs) = (f x, zip_same R f xs)

-- what the one list has, the other has, where both have P and Q
pub zip_all : {X Y : Type 0} (R : X → Y → Type 0) (P : X → Type 0) (Q : Y → Type 0) (A : X → Type 0) (B : Y → Type 0) → ((x : X) (y : Y) → R x y → P x → Q y → A x → B y) → (xs : List X) (ys : List Y) → AllZip R xs ys → All P xs → All Q ys → All A xs → All B ys
zip_all R P Q A B f [] [] h p q a = All-nil B
zip_all R P Q A B f [] (y ∷ ys) h p q a = absurd h
zip_all R P Q A B f (x ∷ xs) [] h p q a = absurd h
zip_all R P Q A B f (x ∷ xs) (y ∷ ys) h p q a =
    All-cons B y ys (f x y h.0 (All-head P x xs p) (All-head Q y ys q) (All-head A x xs a)) (zip_all R P Q A B f xs ys h.1 (All-tail P x xs p) (All-tail Q y ys q) (All-tail A x xs a))
