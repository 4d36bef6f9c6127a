-- The one cell or wall that holds a point, free or not, and what searches for it find.
use Rattle.std.specs.Prelude.{◌≡◌, ℕ, suc, ◌<◌, ℤ, Option, MatchOption, Result, length}
use Rattle.std.specs.declared.result.Result.TheVariants.{Err}
use Rattle.plan_spec.specs.Vector.{Vector}
use Rattle.plan_spec.specs.Slabs.{Slabs, spans_of, marks_of}
use Rattle.plan_spec.specs.Regions as spec
use Rattle.plan_spec.specs.Regions.{cell, wall, Holds}
use Rattle.plan_slab.specs.declared.lot.Lot.{Lot}
use Rattle.plan_slab.specs.Seen.{lot_seen}
use Rattle.plan_slab.proofs.Regions.Falling.{DropsAt}
use Rattle.plan_slab.proofs.Regions.Rows.{above_mark, above_span}

-- both spans, or both marks, are there
abbrev pub IsThere : Slabs → spec.Lot → Type 0
IsThere σ (cell k i) = (suc k < length σ.lines) × (suc i < length (spans_of σ k))
IsThere σ (wall k j) = (k < length σ.lines) × (suc j < length (marks_of σ k))

-- no lot holds z
abbrev pub IsInNone : Slabs → Vector → Type 0
IsInNone σ z = (lot : spec.Lot) → IsThere σ lot → ¬ (Holds σ lot z)

-- the lot holds z, and no other does
pub record IsHeldBy (σ : Slabs) (z : Vector) (lot : spec.Lot) : Type 0 where
  pub there : IsThere σ lot
  pub holds : Holds σ lot z
  pub no_other : (other : spec.Lot) → IsThere σ other → Holds σ other z → other ≡ lot

-- Some lot holds z, or none does
abbrev pub IsLotOf : Slabs → Vector → Option Lot → Type 0
IsLotOf σ z found = MatchOption found (IsInNone σ z) (λ lot. IsHeldBy σ z (lot_seen lot))

-- what was not found in a list of that length is to be inserted between k and k + 1
abbrev pub IsBetween : ℕ → Result ℕ ℕ → ℕ → Type 0
IsBetween count found k = (suc k < count) × (found ≡ Err (suc k))

-- Some k where the row of n numbers falls through 0 between k and k + 1, and None where it does nowhere
abbrev pub FallsAt : ℕ → (ℕ → ℤ) → Option ℕ → Type 0
FallsAt n v found = MatchOption found ((k : ℕ) → ¬ (DropsAt n v k)) (DropsAt n v)

-- mark j of line k is below z and the next one above it
abbrev pub IsMarkBelow : Slabs → ℕ → Vector → Option ℕ → Type 0
IsMarkBelow σ k z = FallsAt (length (marks_of σ k)) (above_mark (marks_of σ k) z)

-- span i of slab k is below z and the next one above it
abbrev pub IsSpanBelow : Slabs → ℕ → Vector → Option ℕ → Type 0
IsSpanBelow σ k z = FallsAt (length (spans_of σ k)) (above_span (spans_of σ k) z)
