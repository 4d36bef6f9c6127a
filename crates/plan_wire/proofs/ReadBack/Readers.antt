-- What the readers of documents make of these values.
use Rattle.std.proofs.Common.{◌≡◌, ℕ, ◌+◌, ◌^◌, ℤ, pos, negsuc, List, [], ◌∷◌, map, All, Ok, refl, ap, lt-ltb}
use Rattle.std.proofs.lemmas.List.Elements.{All-head, All-tail}
use Rattle.serde_json.specs.Data.{Data}
use Rattle.serde_json.specs.View.{items_of}
use Rattle.plan_wire.specs.Reading.{Reader, integer, elements, list_of, each, list_of_any, list_of_exactly, at_element}
use Rattle.plan_wire.proofs.ReadBack.Values.{Fits, number_data, array_data, numbers_data}

pub number_read : (place : List ℕ) (z : ℤ) → Fits z → integer place (number_data z) ≡ Ok z
unfolding integer
number_read place (pos n) h = rw (lt-ltb n (2 ^ 63) h) refl
number_read place (negsuc n) h = refl

list_of_items_of : (vs : List Data) → list_of (items_of vs) ≡ vs
list_of_items_of [] = refl
list_of_items_of (v ∷ vs) = ap (λ ws. v ∷ ws) (list_of_items_of vs)

pub elements_read : {A : Type 0} (f : A → Data) (place : List ℕ) (xs : List A) → elements place (array_data f xs) ≡ Ok (map f xs)
unfolding elements
elements_read f place xs = ap Ok (list_of_items_of (map f xs))

-- at any place the value of x is read as x
abbrev pub IsRead : {A : Type 0} → Reader A → (A → Data) → A → Type 0
IsRead reader f x = (place : List ℕ) → reader place (f x) ≡ Ok x

module _ {A : Type 0} (reader : Reader A) (f : A → Data) where
  each_read : (place : List ℕ) (i : ℕ) (xs : List A) → All (IsRead reader f) xs → each reader place i (map f xs) ≡ Ok xs
  each_read place i [] h = refl
  each_read place i (x ∷ xs) h = rw (All-head (IsRead reader f) x xs h (at_element place i), each_read place (i + 1) xs (All-tail (IsRead reader f) x xs h)) refl

  pub any_read : (place : List ℕ) (xs : List A) → All (IsRead reader f) xs → list_of_any reader place (array_data f xs) ≡ Ok xs
  any_read place xs h = rw (elements_read f place xs) (each_read place 0 xs h)

pub three_read : (place : List ℕ) (x y w : ℤ) → Fits x → Fits y → Fits w → list_of_exactly 3 integer place (numbers_data (x ∷ y ∷ w ∷ [])) ≡ Ok (x ∷ y ∷ w ∷ [])
three_read place x y w hx hy hw =
    rw (elements_read number_data place (x ∷ y ∷ w ∷ []), number_read (at_element place 0) x hx, number_read (at_element place 1) y hy, number_read (at_element place 2) w hw) refl

pub six_read : (place : List ℕ) (a b c d e f : ℤ) → Fits a → Fits b → Fits c → Fits d → Fits e → Fits f
    → list_of_exactly 6 integer place (numbers_data (a ∷ b ∷ c ∷ d ∷ e ∷ f ∷ [])) ≡ Ok (a ∷ b ∷ c ∷ d ∷ e ∷ f ∷ [])
six_read place a b c d e f ha hb hc hd he hf =
    rw (
      elements_read number_data place (a ∷ b ∷ c ∷ d ∷ e ∷ f ∷ []),
      number_read (at_element place 0) a ha,
      number_read (at_element place 1) b hb,
      number_read (at_element place 2) c hc,
      number_read (at_element place 3) d hd,
      number_read (at_element place 4) e he,
      number_read (at_element place 5) f hf,
    ) refl
