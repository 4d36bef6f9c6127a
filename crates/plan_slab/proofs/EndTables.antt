-- The entries of the table of ends.
use Rattle.std.proofs.Common.{◌≡◌, ℕ, suc, ◌+◌, ◌<◌, List, [], map, length, get_or, refl, ap, ◌∙◌, arith}
use Rattle.std.proofs.lemmas.List.{length-map}
use Rattle.plan_spec.specs.Neighbours.{on_left, on_right}
use Rattle.plan_spec.specs.Slabs.{spans_of, marks_of}
use Rattle.plan_slab.specs.Ends.{AreEnds}
use Rattle.plan_slab.specs.Seen.{line_seen, strand_seen}
use Rattle.plan_slab.specs.Subdivision.{Subdivision, IsSubdivision, slabs_of}
use Rattle.plan_slab.proofs.Counts.{span_count, mark_count}
use Rattle.plan_slab.proofs.SlabsSeen.{row_at}

module _ {V : Type 0} (items : V → List (ℕ × ℕ)) (s : Subdivision) (h : IsSubdivision s) (rows : List V) (table : AreEnds (slabs_of s) (map items rows)) (slab at : ℕ) (within : slab + 1 < length s.lines) (below : at < length (get_or s.spans slab [])) (r : V) (is : r ≡ get_or rows slab r) where
  slab_there : slab < length (slabs_of s).spans
  slab_there = omega (arith, length-map s.spans (map strand_seen), h.rows.slab_count, within)

  span_there : at < length (spans_of (slabs_of s) slab)
  span_there = omega (arith, span_count s slab, below)

  row : items r ≡ get_or (map items rows) slab []
  row = row_at items rows slab r (items r) (omega (arith, slab_there, table.slab_count, length-map rows items)) is refl

  pub entry_there : at < length (items r)
  entry_there = omega (arith, span_there, table.span_count slab slab_there, ap length row)

  pub left_entry : (e : ℕ × ℕ) → e ≡ get_or (items r) at e → e.0 ≡ on_left (slabs_of s) slab at
  left_entry e f = ap (λ p. p.0) (f ∙ ap (λ es. get_or es at e) row) ∙ table.left slab at e slab_there span_there

  pub right_entry : (e : ℕ × ℕ) → e ≡ get_or (items r) at e → e.1 ≡ on_right (slabs_of s) slab at
  right_entry e f = ap (λ p. p.1) (f ∙ ap (λ es. get_or es at e) row) ∙ table.right slab at e slab_there span_there

-- ---- the marks of a line
module _ (s : Subdivision) (h : IsSubdivision s) (slab at : ℕ) (within : slab + 1 < length s.lines) (below : at < length (get_or s.spans slab [])) where
  there : suc slab < length (slabs_of s).lines
  there = omega (arith, within, length-map s.lines line_seen)

  pub left_mark : on_left (slabs_of s) slab at < length (get_or s.marks slab [])
  left_mark = omega (arith, h.placed.left_marks slab at there (omega (arith, below, span_count s slab)), mark_count s slab (omega (arith, within)))

  pub right_mark : on_right (slabs_of s) slab at < length (get_or s.marks (slab + 1) [])
  right_mark =
      let next : suc slab ≡ slab + 1 = omega arith in
      omega (arith, h.placed.right_marks slab at there (omega (arith, below, span_count s slab)), ap (λ k. length (marks_of (slabs_of s) k)) next, mark_count s (slab + 1) within)
