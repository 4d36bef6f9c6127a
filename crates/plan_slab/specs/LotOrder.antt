-- The order of cells and walls: from left to right, and in a slab or on a line from below.
use Rattle.std.specs.Prelude.{◌≡◌, ◌⊎◌, ℕ, ◌+◌, ◌*◌, ◌<◌}
use Rattle.plan_spec.specs.Regions.{Lot, cell, wall}

-- line k comes before slab k, and that before line k + 1
abbrev pub rank : Lot → ℕ
rank (cell k i) = 2 * k + 1
rank (wall k j) = 2 * k

abbrev pub index : Lot → ℕ
index (cell k i) = i
index (wall k j) = j

pub record Earlier (a b : Lot) : Type 0 where
  pub earlier : (rank a < rank b) ⊎ ((rank a ≡ rank b) × (index a < index b))
