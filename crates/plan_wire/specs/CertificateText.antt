-- The text of a certificate: JSON without spaces.
use Rattle.std.specs.Prelude.{ℕ, ℤ, List, [], ◌∷◌, ◌++◌, codes}
use Rattle.std.specs.Fmt.{signed_decimal}
use Rattle.std.specs.List.{join_by}
use Rattle.plan_spec.specs.Vector.{Vector}
use Rattle.plan_spec.specs.Segment.{Segment}
use Rattle.plan_wire.specs.Documents.{Certificate, path, chain}

-- the texts in brackets, with a comma between each and the next
abbrev pub listed : {A : Type 0} → (A → List ℕ) → List A → List ℕ
listed text xs = codes "[" ++ join_by text (codes ",") xs ++ codes "]"

-- whole numbers in decimal, with `-` where they are negative
abbrev pub numbers_text : List ℤ → List ℕ
numbers_text = listed signed_decimal

-- x, y and w
abbrev pub point_text : Vector → List ℕ
point_text p = numbers_text (p.x ∷ p.y ∷ p.w ∷ [])

-- x, y and w of one end, and then of the other
abbrev pub segment_text : Segment → List ℕ
segment_text s = numbers_text (s.a.x ∷ s.a.y ∷ s.a.w ∷ s.b.x ∷ s.b.y ∷ s.b.w ∷ [])

abbrev pub certificate_text : Certificate → List ℕ
certificate_text (path points) = codes "{\"path\":" ++ listed point_text points ++ codes "}"
certificate_text (chain segments) = codes "{\"chain\":" ++ listed segment_text segments ++ codes "}"
