-- Lines, spans and marks by number, as the definitions see them.
use Rattle.std.specs.Prelude.{List, [], ◌∷◌, map}
use Rattle.plan_spec.specs.Vector.{Vector}
use Rattle.plan_spec.specs.Slabs.{Slabs}
use Rattle.plan_grid.specs.Fraction.{Fraction}
use Rattle.plan_slab.specs.declared.strand.Strand.{Strand}
use Rattle.plan_slab.specs.Seen.{line_seen, marks_seen, strand_seen}

-- the marks of each line
abbrev pub rows_seen : List Fraction → List (List Fraction) → List (List Vector)
rows_seen [] rows = []
rows_seen (l ∷ ls) [] = []
rows_seen (l ∷ ls) (ms ∷ rows) = marks_seen l ms ∷ rows_seen ls rows

abbrev pub slabs_seen : List Fraction → List (List Strand) → List (List Fraction) → Slabs
slabs_seen lines spans marks = record { lines = map line_seen lines; spans = map (map strand_seen) spans; marks = rows_seen lines marks }
