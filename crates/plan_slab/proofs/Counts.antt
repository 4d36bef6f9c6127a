-- Lines, spans and marks of a subdivision, by number, and how many they are.
use Rattle.std.proofs.Common.{◌≡◌, ℕ, zero, suc, pos, ◌<◌, List, [], ◌∷◌, map, length, get_or, refl, ap, ◌∙◌, arith}
use Rattle.std.proofs.lemmas.List.{length-map}
use Rattle.plan_spec.specs.Slabs.{spans_of, marks_of}
use Rattle.plan_grid.specs.Fraction.{Fraction, point_at}
use Rattle.plan_slab.specs.declared.strand.Strand.{Strand}
use Rattle.plan_slab.specs.Seen.{line_seen, marks_seen, strand_seen}
use Rattle.plan_slab.specs.SlabsSeen.{rows_seen}
use Rattle.plan_slab.specs.Subdivision.{Subdivision, slabs_of}

spans_seen_at : (rows : List (List Strand)) (k : ℕ) → get_or (map (map strand_seen) rows) k [] ≡ map strand_seen (get_or rows k [])
spans_seen_at [] k = refl
spans_seen_at (ss ∷ rows) zero = refl
spans_seen_at (ss ∷ rows) (suc k) = spans_seen_at rows k

marks_seen_at : (ls : List Fraction) (rows : List (List Fraction)) (k : ℕ) (l : Fraction) → k < length ls → get_or (rows_seen ls rows) k [] ≡ marks_seen (get_or ls k l) (get_or rows k [])
marks_seen_at [] rows k l within = absurd (omega arith)
marks_seen_at (x ∷ ls) [] k l within = refl
marks_seen_at (x ∷ ls) (ms ∷ rows) zero l within = refl
marks_seen_at (x ∷ ls) (ms ∷ rows) (suc k) l within = marks_seen_at ls rows k l (omega arith)

module _ (s : Subdivision) where
  pub line_count : length (slabs_of s).lines ≡ length s.lines
  line_count = length-map s.lines line_seen

  pub spans_are : (k : ℕ) → spans_of (slabs_of s) k ≡ map strand_seen (get_or s.spans k [])
  spans_are k = spans_seen_at s.spans k

  pub span_count : (k : ℕ) → length (spans_of (slabs_of s) k) ≡ length (get_or s.spans k [])
  span_count k = ap length (spans_are k) ∙ length-map (get_or s.spans k []) strand_seen

  pub marks_are : (k : ℕ) (l : Fraction) → k < length s.lines → marks_of (slabs_of s) k ≡ marks_seen (get_or s.lines k l) (get_or s.marks k [])
  marks_are k l within = marks_seen_at s.lines s.marks k l within

  pub mark_count : (k : ℕ) → k < length s.lines → length (marks_of (slabs_of s) k) ≡ length (get_or s.marks k [])
  mark_count k within = ap length (marks_are k (record { num = pos 0; den = pos 0 }) within) ∙ length-map (get_or s.marks k []) (point_at (get_or s.lines k (record { num = pos 0; den = pos 0 })))
