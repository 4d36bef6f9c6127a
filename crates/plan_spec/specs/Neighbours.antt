-- Neighbouring regions: a wall and a cell in one of whose upright sides it lies, told by the marks in which the cell's spans meet its two lines.
use Rattle.std.specs.Prelude.{◌≡◌, ℕ, suc, pos, Bool, true, false, ◌&&◌, ◌||◌, eqb, ltb, leb, int_lt, List, [], ◌∷◌, length, if◌then◌else◌}
use Rattle.plan_spec.specs.Vector.{Vector, turn}
use Rattle.plan_spec.specs.Segment.{Segment}
use Rattle.plan_spec.specs.Slabs.{Slabs, span_at, marks_of}
use Rattle.plan_spec.specs.Regions.{Lot, cell, wall, region_at}

-- how many of the marks are below the span, from the lowest on: the number of the first one that is not, where the span meets the line
abbrev pub meets : Segment → List Vector → ℕ
meets s [] = 0
meets s (m ∷ ms) = if int_lt (turn s.a s.b m) (pos 0) then suc (meets s ms) else 0

-- the mark in which span i of slab k meets the line on its left, and the line on its right
abbrev pub on_left : Slabs → ℕ → ℕ → ℕ
on_left σ k i = meets (span_at σ k i) (marks_of σ k)

abbrev pub on_right : Slabs → ℕ → ℕ → ℕ
on_right σ k i = meets (span_at σ k i) (marks_of σ (suc k))

-- a ≤ j < b
abbrev pub in_range : ℕ → ℕ → ℕ → Bool
in_range a b j = leb a j && ltb j b

-- the first lot is a wall in the left side of the second, a cell: its marks are from that of the lower span to that of the upper one
abbrev pub in_left : Slabs → Lot → Lot → Bool
in_left σ (wall n j) (cell k i) = eqb n k && in_range (on_left σ k i) (on_left σ k (suc i)) j
in_left σ (wall n j) (wall k i) = false
in_left σ (cell n j) b = false

-- or in its right side
abbrev pub in_right : Slabs → Lot → Lot → Bool
in_right σ (wall n j) (cell k i) = eqb n (suc k) && in_range (on_right σ k i) (on_right σ k (suc i)) j
in_right σ (wall n j) (wall k i) = false
in_right σ (cell n j) b = false

abbrev pub beside : Slabs → Lot → Lot → Bool
beside σ a b = in_left σ a b || in_right σ a b

-- two regions of which one is a wall in a side of the other
abbrev pub neighbours : Slabs → List Lot → ℕ → ℕ → Bool
neighbours σ found m n = ltb m (length found) && (ltb n (length found) && (beside σ (region_at found m) (region_at found n) || beside σ (region_at found n) (region_at found m)))

abbrev pub AreNeighbours : Slabs → List Lot → ℕ → ℕ → Type 0
AreNeighbours σ found m n = neighbours σ found m n ≡ true
