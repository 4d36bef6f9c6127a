-- A list of four values is read where each of them is.
use Rattle.std.proofs.Common.{◌≡◌, ℕ, ◌<◌, ◌≤◌, ℤ, List, [], ◌∷◌, length, map, slice_index_or, Ok, refl, arith}
use Rattle.serde_json.specs.Data.{Data}
use Rattle.serde_json.specs.View.{view}
use Rattle.serde_json.specs.declared.value.Value.{Value}
use Rattle.plan_wire.specs.Reading.{Reader, at_element, elements, list_of_exactly}

pub four_values : (vs : List Value) (a b c d : Value) → 4 ≤ length vs → length vs < 5 → a ≡ slice_index_or vs 0 a → b ≡ slice_index_or vs 1 b → c ≡ slice_index_or vs 2 c → d ≡ slice_index_or vs 3 d
    → vs ≡ a ∷ b ∷ c ∷ d ∷ []
four_values (a' ∷ b' ∷ c' ∷ d' ∷ []) a b c d least most is_a is_b is_c is_d = rw (is_a, is_b, is_c, is_d) refl
four_values [] a b c d least most is_a is_b is_c is_d = absurd (omega arith)
four_values (_ ∷ []) a b c d least most is_a is_b is_c is_d = absurd (omega arith)
four_values (_ ∷ _ ∷ []) a b c d least most is_a is_b is_c is_d = absurd (omega arith)
four_values (_ ∷ _ ∷ _ ∷ []) a b c d least most is_a is_b is_c is_d = absurd (omega arith)
four_values (_ ∷ _ ∷ _ ∷ _ ∷ _ ∷ vs) a b c d least most is_a is_b is_c is_d = absurd (omega arith)

pub four_numbers : (f : Reader ℤ) (place : List ℕ) (v : Data) (vs : List Value) (a b c d : Value) (p q r s : ℤ) → elements place v ≡ Ok (map view vs) → vs ≡ a ∷ b ∷ c ∷ d ∷ []
    → f (at_element place 0) (view a) ≡ Ok p → f (at_element place 1) (view b) ≡ Ok q → f (at_element place 2) (view c) ≡ Ok r → f (at_element place 3) (view d) ≡ Ok s
    → list_of_exactly 4 f place v ≡ Ok (p ∷ q ∷ r ∷ s ∷ [])
four_numbers f place v vs a b c d p q r s are is on_a on_b on_c on_d = rw (are, is, on_a, on_b, on_c, on_d) refl
