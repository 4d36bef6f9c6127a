-- The compact texts of lists of whole numbers, and of lists of these: what is printed, in UTF-8.
use Rattle.std.proofs.Common.{◌≡◌, ℕ, true, ℤ, pos, negsuc, List, [], ◌∷◌, ◌++◌, map, All, codes, IsUtf8, refl, sym, ap, append_assoc, arith}
use Rattle.std.specs.Fmt.{signed_decimal}
use Rattle.std.specs.List.{join_by}
use Rattle.std.proofs.lemmas.Fmt.{IsAscii-signed}
use Rattle.std.proofs.lemmas.List.Elements.{All-head, All-tail}
use Rattle.std.proofs.lemmas.Str.{IsUtf8-append, IsUtf8-from_ascii, IsUtf8-nil}
use Rattle.json.proofs.Printed.Utf8.{IsUtf8-are_ascii}
use Rattle.serde_json.specs.Data.{Data}
use Rattle.serde_json.specs.View.{items_of}
use Rattle.serde_json.specs.Written.{compact_text, items_text}
use Rattle.plan_wire.specs.CertificateText.{listed}
use Rattle.plan_wire.proofs.Puts.{behind_commas}
use Rattle.plan_wire.proofs.ReadBack.Values.{Fits, number_data, array_data}

pub number_compact : (z : ℤ) → compact_text (number_data z) ≡ signed_decimal z
number_compact (pos n) = refl
number_compact (negsuc n) = refl

module _ {A : Type 0} (f : A → Data) (text : A → List ℕ) (same : (x : A) → compact_text (f x) ≡ text x) where
  later_compact : (xs : List A) → items_text true (items_of (map f xs)) ≡ behind_commas text xs ++ codes "]"
  later_compact [] = refl
  later_compact (x ∷ xs) = rw (same x, later_compact xs) (ap (λ s. 44 ∷ s) (sym (append_assoc (text x) (behind_commas text xs) (codes "]"))))

  pub array_compact : (xs : List A) → compact_text (array_data f xs) ≡ listed text xs
  array_compact [] = refl
  array_compact (x ∷ xs) = rw (same x, later_compact xs) (ap (λ s. 91 ∷ s) (sym (append_assoc (text x) (behind_commas text xs) (codes "]"))))

-- ---- UTF-8

pub signed_decimal_utf8 : (z : ℤ) → Fits z → IsUtf8 (signed_decimal z)
signed_decimal_utf8 (pos n) h = IsUtf8-from_ascii (signed_decimal (pos n)) (IsAscii-signed (pos n) h)
signed_decimal_utf8 (negsuc n) h = IsUtf8-from_ascii (signed_decimal (negsuc n)) (IsAscii-signed (negsuc n) (omega (arith, h)))

pub around : (a b c : List ℕ) → IsUtf8 a → IsUtf8 b → IsUtf8 c → IsUtf8 (a ++ b ++ c)
around a b c h k m = IsUtf8-append (a ++ b) c (IsUtf8-append a b h k) m

module _ {A : Type 0} (text : A → List ℕ) where
  later_utf8 : (xs : List A) → All (λ x. IsUtf8 (text x)) xs → IsUtf8 (behind_commas text xs)
  later_utf8 [] h = IsUtf8-nil
  later_utf8 (x ∷ xs) h =
      let head = All-head (λ x. IsUtf8 (text x)) x xs h in
      let tail = later_utf8 xs (All-tail (λ x. IsUtf8 (text x)) x xs h) in
      IsUtf8-append (codes "," ++ text x) (behind_commas text xs) (IsUtf8-append (codes ",") (text x) (IsUtf8-are_ascii (codes ",") refl) head) tail

  joined_utf8 : (xs : List A) → All (λ x. IsUtf8 (text x)) xs → IsUtf8 (join_by text (codes ",") xs)
  joined_utf8 [] h = IsUtf8-nil
  joined_utf8 (x ∷ xs) h = IsUtf8-append (text x) (behind_commas text xs) (All-head (λ x. IsUtf8 (text x)) x xs h) (later_utf8 xs (All-tail (λ x. IsUtf8 (text x)) x xs h))

  pub listed_utf8 : (xs : List A) → All (λ x. IsUtf8 (text x)) xs → IsUtf8 (listed text xs)
  listed_utf8 xs h = around (codes "[") (join_by text (codes ",") xs) (codes "]") (IsUtf8-are_ascii (codes "[") refl) (joined_utf8 xs h) (IsUtf8-are_ascii (codes "]") refl)
