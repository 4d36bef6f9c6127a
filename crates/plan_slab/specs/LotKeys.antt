-- Lots by one number each.
use Rattle.std.specs.Prelude.{◌↔◌, ℕ, ◌+◌, ◌*◌, ◌<◌, ◌≤◌, List, length, get_or}
use Rattle.plan_spec.specs.Regions.{Lot, region_at}
use Rattle.plan_slab.specs.LotOrder.{rank, index}

-- in the order of lots, where no row has more than 131,072
abbrev pub key : Lot → ℕ
key lot = rank lot * 131072 + index lot

-- lots below that number have lesser keys
pub record AreBelow (found : List Lot) (least n : ℕ) : Type 0 where
  pub within : n ≤ length found
  pub before : (k : ℕ) (d : Lot) → k < n → key (get_or found k d) < least

-- and the others have not
pub record IsFirstFrom (found : List Lot) (least n : ℕ) : Type 0 where
  pub within : n ≤ length found
  pub before : (k : ℕ) (d : Lot) → k < n → key (get_or found k d) < least
  pub from : (k : ℕ) (d : Lot) → n ≤ k → k < length found → least ≤ key (get_or found k d)

-- the numbers from a to below b are those of the lots with keys from low to below high
abbrev pub AreBetween : List Lot → ℕ → ℕ → ℕ → ℕ → Type 0
AreBetween found low high a b = (n : ℕ) → ((a ≤ n) × (n < b)) ↔ ((n < length found) × (low ≤ key (region_at found n)) × (key (region_at found n) < high))
