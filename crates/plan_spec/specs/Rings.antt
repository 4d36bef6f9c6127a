-- The ring of a set of regions: of each cell its lower and its upper side, and what of its left and of its right side is no free wall.
use Rattle.std.specs.Prelude.{ℕ, zero, suc, ◌+◌, ◌-◌, Bool, false, ◌&&◌, ◌||◌, eqb, List, [], ◌∷◌, ◌++◌, if◌then◌else◌}
use Rattle.std.specs.List.{flat_map}
use Rattle.plan_spec.specs.Segment.{Segment, segment}
use Rattle.plan_spec.specs.Slabs.{Slabs, mark_at}
use Rattle.plan_spec.specs.Regions.{Lot, cell, wall, region_at}
use Rattle.plan_spec.specs.Neighbours.{on_left, on_right}

-- whether the wall above mark j of line k is a region
abbrev pub is_wall : ℕ → ℕ → Lot → Bool
is_wall k j (cell n i) = false
is_wall k j (wall n i) = eqb n k && eqb i j

abbrev pub has_wall : List Lot → ℕ → ℕ → Bool
has_wall [] k j = false
has_wall (lot ∷ found) k j = is_wall k j lot || has_wall found k j

-- span i of slab k between its two lines, and the part of line k above mark j
abbrev pub side : Slabs → ℕ → ℕ → Segment
side σ k i = segment (mark_at σ k (on_left σ k i)) (mark_at σ (suc k) (on_right σ k i))

abbrev pub part : Slabs → ℕ → ℕ → Segment
part σ k j = segment (mark_at σ k j) (mark_at σ k (suc j))

-- of the n parts of line k from mark a on, from below, those that are no free wall
abbrev pub closed_parts : Slabs → List Lot → ℕ → ℕ → ℕ → List Segment
closed_parts σ found k a zero = []
closed_parts σ found k a (suc n) = closed_parts σ found k a n ++ (if has_wall found k (a + n) then [] else part σ k (a + n) ∷ [])

-- those of the left side and of the right side of cell i of slab k
abbrev pub left_parts : Slabs → List Lot → ℕ → ℕ → List Segment
left_parts σ found k i = closed_parts σ found k (on_left σ k i) (on_left σ k (suc i) - on_left σ k i)

abbrev pub right_parts : Slabs → List Lot → ℕ → ℕ → List Segment
right_parts σ found k i = closed_parts σ found (suc k) (on_right σ k i) (on_right σ k (suc i) - on_right σ k i)

-- of a cell, in the order lower side, right side, upper side, left side; of a wall nothing
abbrev pub kept : Slabs → List Lot → Lot → List Segment
kept σ found (wall k j) = []
kept σ found (cell k i) = side σ k i ∷ (right_parts σ found k i ++ (side σ k (suc i) ∷ left_parts σ found k i))

abbrev pub ring : Slabs → List Lot → List ℕ → List Segment
ring σ found ns = flat_map (λ n. kept σ found (region_at found n)) ns
