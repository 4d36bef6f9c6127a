-- What a document of bytes is, by what is found on the way: too many bytes, no text, or a text.
use Rattle.std.proofs.Common.{◌≡◌, ◌≤◌, ◌<◌, ℕ, Bool, true, false, List, length, codes, if◌then◌else◌, Err, refl}
use Rattle.std.specs.Str.{IsUtf8, is_utf8}
use Rattle.std.proofs.lemmas.Bool.{le-leb, lt-leb}
use Rattle.std.proofs.lemmas.Str.{is_utf8-from_IsUtf8, IsUtf8-from_is_utf8}
use Rattle.serde_json.specs.Read.{read}
use Rattle.plan_wire.specs.Reading.{Read, too_long, json, bind, some_or}
use Rattle.plan_wire.specs.Documents.{json_of, value_of, document_of, most_bytes}
use Rattle.plan_wire.specs.declared.documents.Want.{Want}

pub long : (bytes : List ℕ) (want : Want) → most_bytes < length bytes → document_of bytes want ≡ Err too_long
unfolding document_of
long bytes want h = rw (lt-leb _ _ h) refl

pub short : (bytes : List ℕ) (want : Want) → length bytes ≤ most_bytes → document_of bytes want ≡ bind (json_of bytes) (value_of want (codes "$"))
unfolding document_of
short bytes want h = rw (le-leb _ _ h) refl

other : (b : Bool) (A : Type 0) (o : Read A) → (b ≡ true → ⊥) → (if b then o else Err json) ≡ Err json
other true A o h = absurd (h refl)
other false A o h = refl

pub no_text : (bytes : List ℕ) → (IsUtf8 bytes → ⊥) → json_of bytes ≡ Err json
no_text bytes h = other (is_utf8 bytes) _ (some_or json (read bytes)) (λ is. h (IsUtf8-from_is_utf8 bytes is))

pub text : (bytes read_as : List ℕ) → (read_as ≡ bytes) × IsUtf8 bytes → json_of bytes ≡ some_or json (read read_as)
text bytes read_as is = rw (is_utf8-from_IsUtf8 bytes is.1, is.0) refl
