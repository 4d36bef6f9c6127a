-- Lines, spans and marks by number.
use Rattle.std.proofs.Common.{◌≡◌, ℕ, zero, suc, ◌+◌, ◌<◌, List, [], ◌∷◌, map, length, get_or, refl, sym, ap, ap₂, ◌∙◌, arith}
use Rattle.std.proofs.lemmas.List.{get_or-map, get_or_default}
use Rattle.plan_spec.specs.Vector.{Vector}
use Rattle.plan_spec.specs.Slabs.{nowhere, line_at, spans_of, marks_of}
use Rattle.plan_spec.specs.Regions.{mediant}
use Rattle.plan_grid.specs.Fraction.{Fraction}
use Rattle.plan_slab.specs.declared.strand.Strand.{Strand}
use Rattle.plan_slab.specs.Seen.{line_seen, marks_seen, strand_seen}
use Rattle.plan_slab.specs.SlabsSeen.{rows_seen, slabs_seen}

pub row_at : {V Y : Type 0} (items : V → List Y) (rows : List V) (k : ℕ) (r : V) (ys : List Y) → k < length rows → r ≡ get_or rows k r → ys ≡ items r → ys ≡ get_or (map items rows) k []
row_at items rows k r ys within e f = f ∙ ap items e ∙ sym (get_or-map items rows k r [] within)

pub element_at : {X : Type 0} (xs : List X) (k : ℕ) (x d : X) → k < length xs → x ≡ get_or xs k x → x ≡ get_or xs k d
element_at xs k x d within e = e ∙ get_or_default xs k x d within

pub rows_at : (ls : List Fraction) (rows : List (List Fraction)) (k : ℕ) (l : Fraction) → k < length ls → k < length rows → get_or (rows_seen ls rows) k [] ≡ marks_seen (get_or ls k l) (get_or rows k [])
rows_at [] rows k l here there = absurd (omega arith)
rows_at (x ∷ ls) [] k l here there = absurd (omega arith)
rows_at (x ∷ ls) (ms ∷ rows) zero l here there = refl
rows_at (x ∷ ls) (ms ∷ rows) (suc k) l here there = rows_at ls rows k l (omega arith) (omega arith)

module _ (lines : List Fraction) (spans : List (List Strand)) (marks : List (List Fraction)) where
  pub line_seen_at : (k : ℕ) (a : Fraction) → k < length lines → a ≡ get_or lines k a → line_seen a ≡ line_at (slabs_seen lines spans marks) k
  line_seen_at k a within e = ap line_seen e ∙ sym (get_or-map line_seen lines k a nowhere within)

  pub mediant_seen_at : (k : ℕ) (a b : Fraction) (x : Vector) → k + 1 < length lines → a ≡ get_or lines k a → b ≡ get_or lines (k + 1) b → x ≡ mediant (line_seen a) (line_seen b) → x ≡ mediant (line_at (slabs_seen lines spans marks) k) (line_at (slabs_seen lines spans marks) (suc k))
  mediant_seen_at k a b x within ea eb e = e ∙ ap₂ mediant (line_seen_at k a (omega arith) ea) (line_seen_at (k + 1) b within eb ∙ (let f : k + 1 ≡ suc k = omega arith in ap (line_at (slabs_seen lines spans marks)) f))

  pub spans_seen_at : (k : ℕ) (ss : List Strand) → k < length spans → ss ≡ get_or spans k [] → map strand_seen ss ≡ spans_of (slabs_seen lines spans marks) k
  spans_seen_at k ss within e = ap (map strand_seen) e ∙ sym (get_or-map (map strand_seen) spans k [] [] within)

  pub marks_seen_at : (k : ℕ) (l : Fraction) (ms : List Fraction) → k < length lines → k < length marks → l ≡ get_or lines k l → ms ≡ get_or marks k [] → marks_seen l ms ≡ marks_of (slabs_seen lines spans marks) k
  marks_seen_at k l ms here there el em = ap₂ marks_seen el em ∙ sym (rows_at lines marks k l here there)
