-- Lists of whole numbers, and lists of these, as values of JSON whose texts are read back as the same values.
use Rattle.std.proofs.Common.{◌≡◌, ℕ, suc, ◌≤◌, ◌<◌, ◌^◌, ℤ, pos, negsuc, unsigned_abs, List, [], ◌∷◌, map, All, Some, option_map, option_and_then, refl, sym, ap, ◌∙◌, arith, append-nil}
use Rattle.std.proofs.lemmas.List.Elements.{All-head, All-tail}
use Rattle.json.specs.Lex.{tokens}
use Rattle.json.specs.Json as json
use Rattle.json.specs.Tree as tree
use Rattle.json.proofs.Printed.Decimals.{IsNumber-signed_decimal}
use Rattle.json.proofs.Printed.Tokens.{tokens-print}
use Rattle.json.proofs.Printed.Trees.{value-json_tokens, ArePrintable-json_tokens}
use Rattle.serde_json.specs.Data.{Data, number, array, object, member, no_members}
use Rattle.serde_json.specs.Find.{of_integer}
use Rattle.serde_json.specs.Read.{read, max_depth, of_json, of_items}
use Rattle.serde_json.specs.View.{items_of}
use Rattle.serde_json.specs.Written.{outline, items_outline, compact_text}
use Rattle.serde_json.proofs.Numbers.{number_of-decimal, number_of-negative}
use Rattle.serde_json.proofs.Texts.{print-outline}

-- ---- the values

abbrev pub number_data : ℤ → Data
number_data z = number (of_integer z)

-- a list of what f makes of each
abbrev pub array_data : {A : Type 0} → (A → Data) → List A → Data
array_data f xs = array (items_of (map f xs))

abbrev pub numbers_data : List ℤ → Data
numbers_data = array_data number_data

-- an object with one member
abbrev pub object_data : List ℕ → Data → Data
object_data name d = object (member name d no_members)

-- ---- they are what their texts are read as

-- a number of 64 bits
abbrev pub Fits : ℤ → Type 0
Fits z = unsigned_abs z < 2 ^ 63

-- the value has no floats, no text of a number that stands for another, and nests to n at most
pub record IsExact (n : ℕ) (d : Data) : Type 0 where
  pub same : of_json (outline d) ≡ Some d
  pub numbers : tree.HasNumbers (outline d)
  pub shallow : tree.depth (outline d) ≤ n

pub number_exact : (z : ℤ) → Fits z → IsExact 0 (number_data z)
number_exact (pos n) h = record {
  same = ap (option_map number) (number_of-decimal n (omega (arith, h)));
  numbers = IsNumber-signed_decimal (pos n) h;
  shallow = omega arith;
}
number_exact (negsuc n) h = record {
  same = ap (option_map number) (number_of-negative n (omega (arith, h)));
  numbers = IsNumber-signed_decimal (negsuc n) (omega (arith, h));
  shallow = omega arith;
}

record AreExact (n : ℕ) (js : json.Items) (ds : List Data) : Type 0 where
  same : of_items js ≡ Some (items_of ds)
  numbers : tree.ItemsHaveNumbers js
  shallow : tree.items_depth js ≤ n

module _ {A : Type 0} (n : ℕ) (f : A → Data) where
  items_exact : (xs : List A) → All (λ x. IsExact n (f x)) xs → AreExact n (items_outline (items_of (map f xs))) (map f xs)
  items_exact [] h = record { same = refl; numbers = tt; shallow = omega arith }
  items_exact (x ∷ xs) h =
      let head = All-head (λ x. IsExact n (f x)) x xs h in
      let tail = items_exact xs (All-tail (λ x. IsExact n (f x)) x xs h) in
      record {
        same = rw (head.same, tail.same) refl;
        numbers = (head.numbers, tail.numbers);
        shallow = omega (arith, head.shallow, tail.shallow);
      }

  pub array_exact : (xs : List A) → All (λ x. IsExact n (f x)) xs → IsExact (suc n) (array_data f xs)
  array_exact xs h =
      let items = items_exact xs h in
      record { same = ap (option_map array) items.same; numbers = items.numbers; shallow = omega (arith, items.shallow) }

pub object_exact : (n : ℕ) (name : List ℕ) (d : Data) → IsExact n d → IsExact (suc n) (object_data name d)
object_exact n name d e = record { same = rw e.same refl; numbers = (e.numbers, tt); shallow = omega (arith, e.shallow) }

pub exact_read : (d : Data) → IsExact max_depth d → read (compact_text d) ≡ Some d
exact_read d e =
    let j = outline d in
    let same : tokens (compact_text d) ≡ tree.json_tokens j = ap tokens (sym (print-outline d)) ∙ tokens-print (tree.json_tokens j) (ArePrintable-json_tokens j e.numbers) in
    ap (λ o. option_and_then of_json (option_and_then (λ p. json.if_last p.0 p.1) o)) (ap (json.value max_depth) (same ∙ sym (append-nil _)) ∙ value-json_tokens j max_depth [] e.shallow) ∙ e.same
