-- The neighbours of a region on its left, and those on its right.
use Rattle.std.specs.Prelude.{◌≡◌, ◌↔◌, ℕ, ◌<◌, ◌≤◌, Bool, true, ◌||◌, List, length}
use Rattle.plan_spec.specs.Slabs.{Slabs}
use Rattle.plan_spec.specs.Regions.{Lot, region_at}
use Rattle.plan_spec.specs.Neighbours.{in_left, in_right}

-- region n is a wall in the left side of the cell m, or the cell in whose right side the wall m is
abbrev pub is_left_of : Slabs → List Lot → ℕ → ℕ → Bool
is_left_of σ found n m = in_left σ (region_at found n) (region_at found m) || in_right σ (region_at found m) (region_at found n)

-- region n is a wall in the right side of the cell m, or the cell in whose left side the wall m is
abbrev pub is_right_of : Slabs → List Lot → ℕ → ℕ → Bool
is_right_of σ found n m = in_right σ (region_at found n) (region_at found m) || in_left σ (region_at found m) (region_at found n)

-- the numbers from a to below b are those of the regions on the left of region m, or of those on its right
abbrev pub AreLeftOf : Slabs → List Lot → ℕ → ℕ → ℕ → Type 0
AreLeftOf σ found m a b = (n : ℕ) → ((a ≤ n) × (n < b)) ↔ ((n < length found) × (is_left_of σ found n m ≡ true))

abbrev pub AreRightOf : Slabs → List Lot → ℕ → ℕ → ℕ → Type 0
AreRightOf σ found m a b = (n : ℕ) → ((a ≤ n) × (n < b)) ↔ ((n < length found) × (is_right_of σ found n m ≡ true))
