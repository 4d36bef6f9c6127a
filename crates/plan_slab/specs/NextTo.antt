-- The neighbours of one cell or wall among the regions.
use Rattle.std.specs.Prelude.{◌≡◌, ◌↔◌, ℕ, ◌<◌, ◌≤◌, true, ◌||◌, List, length, get_or}
use Rattle.plan_spec.specs.Slabs.{Slabs}
use Rattle.plan_spec.specs.Regions.{Lot, region_at}
use Rattle.plan_spec.specs.Neighbours.{in_left, in_right}
use Rattle.plan_slab.specs.declared.row.Row.{Row}

-- pairs below that number have values up to that limit, and the others have greater ones
pub record IsPast (value : ℕ × ℕ → ℕ) (pairs : List (ℕ × ℕ)) (limit n : ℕ) : Type 0 where
  pub within : n ≤ length pairs
  pub before : (i : ℕ) (d : ℕ × ℕ) → i < n → value (get_or pairs i d) ≤ limit
  pub from : (i : ℕ) (d : ℕ × ℕ) → n ≤ i → i < length pairs → limit < value (get_or pairs i d)

-- the numbers from a to below b are those of the cells that have the wall in their right side, or in their left one
abbrev pub AreInRightOf : Slabs → List Lot → Lot → ℕ → ℕ → Type 0
AreInRightOf σ found lot a b = (n : ℕ) → ((a ≤ n) × (n < b)) ↔ ((n < length found) × (in_right σ lot (region_at found n) ≡ true))

abbrev pub AreInLeftOf : Slabs → List Lot → Lot → ℕ → ℕ → Type 0
AreInLeftOf σ found lot a b = (n : ℕ) → ((a ≤ n) × (n < b)) ↔ ((n < length found) × (in_left σ lot (region_at found n) ≡ true))

-- the numbers of the regions on the left of the lot, and of those on its right
pub record IsRowOf (σ : Slabs) (found : List Lot) (lot : Lot) (row : Row) : Type 0 where
  pub left : (n : ℕ) → ((row.left.start ≤ n) × (n < row.left.end)) ↔ ((n < length found) × (in_left σ (region_at found n) lot || in_right σ lot (region_at found n) ≡ true))
  pub right : (n : ℕ) → ((row.right.start ≤ n) × (n < row.right.end)) ↔ ((n < length found) × (in_right σ (region_at found n) lot || in_left σ lot (region_at found n) ≡ true))
