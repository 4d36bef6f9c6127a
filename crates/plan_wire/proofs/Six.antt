-- A list of six values is read where each of them is.
use Rattle.std.proofs.Common.{◌≡◌, ℕ, ◌<◌, ◌≤◌, ℤ, List, [], ◌∷◌, length, map, slice_index_or, Ok, refl, arith}
use Rattle.serde_json.specs.Data.{Data}
use Rattle.serde_json.specs.View.{view}
use Rattle.serde_json.specs.declared.value.Value.{Value}
use Rattle.plan_wire.specs.Reading.{at_element, elements, integer, list_of_exactly}

pub six_values : (vs : List Value) (a b c d e f : Value) → 6 ≤ length vs → length vs < 7
    → a ≡ slice_index_or vs 0 a → b ≡ slice_index_or vs 1 b → c ≡ slice_index_or vs 2 c → d ≡ slice_index_or vs 3 d → e ≡ slice_index_or vs 4 e → f ≡ slice_index_or vs 5 f
    → vs ≡ a ∷ b ∷ c ∷ d ∷ e ∷ f ∷ []
six_values (a' ∷ b' ∷ c' ∷ d' ∷ e' ∷ f' ∷ []) a b c d e f least most is_a is_b is_c is_d is_e is_f = rw (is_a, is_b, is_c, is_d, is_e, is_f) refl
six_values [] a b c d e f least most is_a is_b is_c is_d is_e is_f = absurd (omega arith)
six_values (_ ∷ []) a b c d e f least most is_a is_b is_c is_d is_e is_f = absurd (omega arith)
six_values (_ ∷ _ ∷ []) a b c d e f least most is_a is_b is_c is_d is_e is_f = absurd (omega arith)
six_values (_ ∷ _ ∷ _ ∷ []) a b c d e f least most is_a is_b is_c is_d is_e is_f = absurd (omega arith)
six_values (_ ∷ _ ∷ _ ∷ _ ∷ []) a b c d e f least most is_a is_b is_c is_d is_e is_f = absurd (omega arith)
six_values (_ ∷ _ ∷ _ ∷ _ ∷ _ ∷ []) a b c d e f least most is_a is_b is_c is_d is_e is_f = absurd (omega arith)
six_values (_ ∷ _ ∷ _ ∷ _ ∷ _ ∷ _ ∷ _ ∷ vs) a b c d e f least most is_a is_b is_c is_d is_e is_f = absurd (omega arith)

pub six_numbers : (place : List ℕ) (v : Data) (vs : List Value) (a b c d e f : Value) (p q r s t u : ℤ) → elements place v ≡ Ok (map view vs) → vs ≡ a ∷ b ∷ c ∷ d ∷ e ∷ f ∷ []
    → integer (at_element place 0) (view a) ≡ Ok p → integer (at_element place 1) (view b) ≡ Ok q → integer (at_element place 2) (view c) ≡ Ok r
    → integer (at_element place 3) (view d) ≡ Ok s → integer (at_element place 4) (view e) ≡ Ok t → integer (at_element place 5) (view f) ≡ Ok u
    → list_of_exactly 6 integer place v ≡ Ok (p ∷ q ∷ r ∷ s ∷ t ∷ u ∷ [])
six_numbers place v vs a b c d e f p q r s t u are is on_a on_b on_c on_d on_e on_f = rw (are, is, on_a, on_b, on_c, on_d, on_e, on_f) refl
