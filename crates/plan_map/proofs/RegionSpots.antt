-- The point of a region, by the lines, spans and marks that are read.
use Rattle.std.proofs.Common.{◌≡◌, inl, inr, ℕ, suc, ◌+◌, ◌<◌, List, [], map, length, get_or, refl, sym, ap, ap₂, ◌∙◌, arith}
use Rattle.std.proofs.lemmas.Bool.{cases_lt}
use Rattle.std.proofs.lemmas.List.{get_or-map, length-map, get_or_past, get_or_default}
use Rattle.plan_spec.specs.Slabs.{nowhere, nothing, line_at, span_at, mark_at}
use Rattle.plan_spec.specs.Regions.{cell, wall, IsLot, cell_spot, halfway, spot_of}
use Rattle.plan_grid.specs.Fraction.{Fraction, point_at}
use Rattle.plan_slab.specs.declared.strand.Strand.{Strand}
use Rattle.plan_slab.specs.LotsThere.{IsThere}
use Rattle.plan_slab.specs.Seen.{line_seen, strand_seen}
use Rattle.plan_slab.specs.Subdivision.{Subdivision, slabs_of}
use Rattle.plan_slab.proofs.SlabsSeen.{line_seen_at, spans_seen_at, marks_seen_at}

next : (k : ℕ) → k + 1 ≡ suc k
next k = omega arith

-- an element of a list that is read as another
pub read_at : {X : Type 0} (xs ys : List X) (n : ℕ) (d : X) → xs ≡ ys → n < length ys → get_or xs n d ≡ get_or ys n (get_or xs n d)
read_at xs ys n d e within = ap (λ zs. get_or zs n d) e ∙ get_or_default ys n d (get_or xs n d) within

-- ---- a cell
module _ (s : Subdivision) (k i : ℕ) (lot : IsLot (slabs_of s) (cell k i)) (there : IsThere s (cell k i)) where
  slab : k < length s.spans
  slab = omega (arith, lot.0, length-map s.spans (map strand_seen))

  pub left_line : (a : Fraction) → a ≡ get_or s.lines k a → line_seen a ≡ line_at (slabs_of s) k
  left_line a e = line_seen_at s.lines s.spans s.marks k a (omega (arith, there.0)) e

  pub right_line : (b : Fraction) → b ≡ get_or s.lines (k + 1) b → line_seen b ≡ line_at (slabs_of s) (suc k)
  right_line b e = line_seen_at s.lines s.spans s.marks (k + 1) b there.0 e ∙ ap (line_at (slabs_of s)) (next k)

  span : (n : ℕ) (u : Strand) → n < length (get_or s.spans k []) → u ≡ get_or (get_or s.spans k []) n u → strand_seen u ≡ span_at (slabs_of s) k n
  span n u within e =
      let ss = get_or s.spans k [] in
      ap strand_seen e ∙ sym (get_or-map strand_seen ss n u nothing within) ∙ ap (λ xs. get_or xs n nothing) (spans_seen_at s.lines s.spans s.marks k ss slab refl)

  pub cell_spot_is : (a b : Fraction) (u v : Strand) → a ≡ get_or s.lines k a → b ≡ get_or s.lines (k + 1) b → u ≡ get_or (get_or s.spans k []) i u → v ≡ get_or (get_or s.spans k []) (i + 1) v
      → cell_spot (line_seen a) (line_seen b) (strand_seen u) (strand_seen v) ≡ spot_of (slabs_of s) (cell k i)
  cell_spot_is a b u v ea eb eu ev =
      ap₂ (λ l r. cell_spot l r (strand_seen u) (strand_seen v)) (left_line a ea) (right_line b eb)
      ∙ ap₂ (λ t w. cell_spot (line_at (slabs_of s) k) (line_at (slabs_of s) (suc k)) t w) (span i u (omega (arith, there.1)) eu) (span (i + 1) v there.1 ev ∙ ap (span_at (slabs_of s) k) (next i))

-- ---- a wall
module _ (s : Subdivision) (k j : ℕ) (there : IsThere s (wall k j)) where
  marked : k < length s.marks
  marked = elim (cases_lt k (length s.marks)) [
    | inl h ↦ h
    | inr past ↦ absurd (omega (arith, there.1, ap length (get_or_past s.marks k [] past)))
  ]

  mark : (l : Fraction) → l ≡ get_or s.lines k l → (n : ℕ) (f : Fraction) → n < length (get_or s.marks k []) → f ≡ get_or (get_or s.marks k []) n f → point_at l f ≡ mark_at (slabs_of s) k n
  mark l el n f within e =
      let ms = get_or s.marks k [] in
      ap (point_at l) e ∙ sym (get_or-map (point_at l) ms n f nowhere within) ∙ ap (λ xs. get_or xs n nowhere) (marks_seen_at s.lines s.spans s.marks k l ms there.0 marked el refl)

  pub wall_spot_is : (l f g : Fraction) → l ≡ get_or s.lines k l → f ≡ get_or (get_or s.marks k []) j f → g ≡ get_or (get_or s.marks k []) (j + 1) g → halfway (point_at l f) (point_at l g) ≡ spot_of (slabs_of s) (wall k j)
  wall_spot_is l f g el ef eg = ap₂ halfway (mark l el j f (omega (arith, there.1)) ef) (mark l el (j + 1) g there.1 eg ∙ ap (mark_at (slabs_of s) k) (next j))
