-- Lots whose spans or marks are there.
use Rattle.std.specs.Prelude.{◌+◌, ◌<◌, [], length, get_or}
use Rattle.plan_spec.specs.Regions.{Lot, cell, wall}
use Rattle.plan_slab.specs.Subdivision.{Subdivision}

-- both spans of the cell, or both marks of the wall
abbrev pub IsThere : Subdivision → Lot → Type 0
IsThere s (cell k i) = (k + 1 < length s.lines) × (i + 1 < length (get_or s.spans k []))
IsThere s (wall k j) = (k < length s.lines) × (j + 1 < length (get_or s.marks k []))
