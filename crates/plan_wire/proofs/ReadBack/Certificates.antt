-- The text of a certificate is JSON, and its value is read as the certificate.
use Rattle.std.proofs.Common.{◌≡◌, ℕ, ℤ, List, [], ◌∷◌, ◌++◌, codes, All, IsUtf8, refl, sym, ap, subst, ◌∙◌, arith}
use Rattle.std.proofs.lemmas.List.Elements.{All-nil, All-cons, All-weaker}
use Rattle.std.specs.Fmt.{signed_decimal}
use Rattle.json.specs.Print.{escape_byte}
use Rattle.json.proofs.Printed.Utf8.{IsUtf8-are_ascii}
use Rattle.serde_json.specs.Data.{Data}
use Rattle.serde_json.specs.Read.{read, max_depth}
use Rattle.serde_json.specs.Written.{compact_text}
use Rattle.plan_spec.specs.Vector.{Vector}
use Rattle.plan_spec.specs.Segment.{Segment}
use Rattle.plan_grid.specs.Bounds.{IsInRange}
use Rattle.plan_wire.specs.Bounds.{EndsFit}
use Rattle.plan_wire.specs.Reading.{json, some_or, at_member}
use Rattle.plan_wire.specs.Documents.{Certificate, path, chain, point_of, segment_of, certificate_of}
use Rattle.plan_wire.specs.CertificateText.{listed, numbers_text, point_text, segment_text, certificate_text}
use Rattle.plan_wire.specs.ReadBack.{HasPointsInRange, IsReadAs, ReadBack}
use Rattle.plan_wire.proofs.Bytes.{text}
use Rattle.plan_wire.proofs.Points.{point_at_itself}
use Rattle.plan_wire.proofs.ReadBack.Values.{Fits, number_data, array_data, numbers_data, object_data, IsExact, number_exact, array_exact, object_exact, exact_read}
use Rattle.plan_wire.proofs.ReadBack.Texts.{number_compact, array_compact, signed_decimal_utf8, listed_utf8, around}
use Rattle.plan_wire.proofs.ReadBack.Readers.{IsRead, any_read, three_read, six_read}

-- ---- numbers

numbers_compact : (zs : List ℤ) → compact_text (numbers_data zs) ≡ numbers_text zs
numbers_compact zs = array_compact number_data signed_decimal number_compact zs

numbers_exact : (zs : List ℤ) → All Fits zs → IsExact 1 (numbers_data zs)
numbers_exact zs h = array_exact 0 number_data zs (All-weaker Fits (λ z. IsExact 0 (number_data z)) number_exact zs h)

numbers_utf8 : (zs : List ℤ) → All Fits zs → IsUtf8 (numbers_text zs)
numbers_utf8 zs h = listed_utf8 signed_decimal zs (All-weaker Fits (λ z. IsUtf8 (signed_decimal z)) signed_decimal_utf8 zs h)

-- ---- points

abbrev point_numbers : Vector → List ℤ
point_numbers p = p.x ∷ p.y ∷ p.w ∷ []

abbrev point_data : Vector → Data
point_data p = numbers_data (point_numbers p)

record NumbersFit (p : Vector) : Type 0 where
  x : Fits p.x
  y : Fits p.y
  w : Fits p.w

numbers_fit : (p : Vector) → IsInRange p → NumbersFit p
numbers_fit p h = record {
  x = omega (arith, h.x_bounded, h.weight_bounded);
  y = omega (arith, h.y_bounded, h.weight_bounded);
  w = omega (arith, h.weight_bounded);
}

before : (zs : List ℤ) (p : Vector) → NumbersFit p → All Fits zs → All Fits (p.x ∷ p.y ∷ p.w ∷ zs)
before zs p h rest = All-cons Fits p.x (p.y ∷ p.w ∷ zs) h.x (All-cons Fits p.y (p.w ∷ zs) h.y (All-cons Fits p.w zs h.w rest))

point_fits : (p : Vector) → IsInRange p → All Fits (point_numbers p)
point_fits p h = before [] p (numbers_fit p h) (All-nil Fits)

point_compact : (p : Vector) → compact_text (point_data p) ≡ point_text p
point_compact p = numbers_compact (point_numbers p)

point_read : (p : Vector) → IsInRange p → IsRead point_of point_data p
unfolding point_of
point_read p h place =
    let fits = numbers_fit p h in
    rw (three_read place p.x p.y p.w fits.x fits.y fits.w, point_at_itself p h) refl

-- ---- segments

abbrev segment_numbers : Segment → List ℤ
segment_numbers s = s.a.x ∷ s.a.y ∷ s.a.w ∷ s.b.x ∷ s.b.y ∷ s.b.w ∷ []

abbrev segment_data : Segment → Data
segment_data s = numbers_data (segment_numbers s)

segment_fits : (s : Segment) → EndsFit s → All Fits (segment_numbers s)
segment_fits s h = before (s.b.x ∷ s.b.y ∷ s.b.w ∷ []) s.a (numbers_fit s.a h.0) (point_fits s.b h.1)

segment_compact : (s : Segment) → compact_text (segment_data s) ≡ segment_text s
segment_compact s = numbers_compact (segment_numbers s)

segment_read : (s : Segment) → EndsFit s → IsRead segment_of segment_data s
unfolding segment_of
segment_read s h place =
    let a = numbers_fit s.a h.0 in
    let b = numbers_fit s.b h.1 in
    rw (six_read place s.a.x s.a.y s.a.w s.b.x s.b.y s.b.w a.x a.y a.w b.x b.y b.w, point_at_itself s.a h.0, point_at_itself s.b h.1) refl

-- ---- certificates

-- the text of an object with one list is that of its value, in UTF-8
record IsText (s : List ℕ) (d : Data) : Type 0 where
  compact : compact_text d ≡ s
  utf8 : IsUtf8 s
  exact : IsExact 3 d

abbrev certificate_data : Certificate → Data
certificate_data (path points) = object_data (codes "path") (array_data point_data points)
certificate_data (chain segments) = object_data (codes "chain") (array_data segment_data segments)

certificate_is_text : (c : Certificate) → HasPointsInRange c → IsText (certificate_text c) (certificate_data c)
unfolding escape_byte
certificate_is_text (path points) h = record {
  compact = ap (λ s. codes "{\"path\":" ++ s ++ codes "}") (array_compact point_data point_text point_compact points);
  utf8 =
      around (codes "{\"path\":") (listed point_text points) (codes "}") (IsUtf8-are_ascii (codes "{\"path\":") refl)
      (listed_utf8 point_text points (All-weaker IsInRange (λ p. IsUtf8 (point_text p)) (λ p k. numbers_utf8 (point_numbers p) (point_fits p k)) points h)) (IsUtf8-are_ascii (codes "}") refl);
  exact = object_exact 2 (codes "path") (array_data point_data points) (array_exact 1 point_data points (All-weaker IsInRange (λ p. IsExact 1 (point_data p)) (λ p k. numbers_exact (point_numbers p) (point_fits p k)) points h));
}
certificate_is_text (chain segments) h = record {
  compact = ap (λ s. codes "{\"chain\":" ++ s ++ codes "}") (array_compact segment_data segment_text segment_compact segments);
  utf8 =
      around (codes "{\"chain\":") (listed segment_text segments) (codes "}") (IsUtf8-are_ascii (codes "{\"chain\":") refl)
      (listed_utf8 segment_text segments (All-weaker EndsFit (λ s. IsUtf8 (segment_text s)) (λ s k. numbers_utf8 (segment_numbers s) (segment_fits s k)) segments h)) (IsUtf8-are_ascii (codes "}") refl);
  exact = object_exact 2 (codes "chain") (array_data segment_data segments) (array_exact 1 segment_data segments (All-weaker EndsFit (λ s. IsExact 1 (segment_data s)) (λ s k. numbers_exact (segment_numbers s) (segment_fits s k)) segments h));
}

certificate_read : (c : Certificate) → HasPointsInRange c → IsRead certificate_of certificate_data c
unfolding certificate_of
certificate_read (path points) h place =
    rw (any_read point_of point_data (at_member place (codes "path")) points (All-weaker IsInRange (IsRead point_of point_data) point_read points h)) refl
certificate_read (chain segments) h place =
    rw (any_read segment_of segment_data (at_member place (codes "chain")) segments (All-weaker EndsFit (IsRead segment_of segment_data) segment_read segments h)) refl

deeper : (d : Data) → IsExact 3 d → IsExact max_depth d
deeper d e = record { same = e.same; numbers = e.numbers; shallow = omega (arith, e.shallow) }

pub certificate_read_back : ReadBack
certificate_read_back c h =
    let t = certificate_is_text c h in
    let d = certificate_data c in
    record {
      value = d;
      json = text (certificate_text c) (certificate_text c) (refl, t.utf8) ∙ ap (some_or json) (ap read (sym t.compact) ∙ exact_read d (deeper d t.exact));
      read = certificate_read c h;
    }

-- also where it is put behind nothing
pub whole_text : (before text : List ℕ) (c : Certificate) → before ≡ [] → text ≡ before ++ certificate_text c → HasPointsInRange c → IsReadAs text c
whole_text before text c none is h = subst (λ t. IsReadAs t c) (sym (is ∙ ap (λ l. l ++ certificate_text c) none)) (certificate_read_back c h)
