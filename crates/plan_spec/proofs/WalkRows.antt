-- Walks, paths and rings, tried on a bar in a room: each line is computed.
use Rattle.std.proofs.Common.{◌≡◌, ℤ, pos, true, false, List, [], ◌∷◌, inl, inr, refl, arith}
use Rattle.plan_spec.specs.Vector.{Vector, Same, spot}
use Rattle.plan_spec.specs.Segment.{Segment}
use Rattle.plan_spec.specs.Parity.{parity}
use Rattle.plan_spec.specs.Slabs.{Slabs}
use Rattle.plan_spec.specs.Regions.{Lot, cell, wall}
use Rattle.plan_spec.specs.Neighbours.{on_left, on_right, neighbours, AreNeighbours}
use Rattle.plan_spec.specs.Walks.{IsWalk, NotAfter}
use Rattle.plan_spec.specs.Paths.{path_along}
use Rattle.plan_spec.specs.Rings.{kept, ring}
use Rattle.plan_spec.proofs.SlabRows.{flat, floor, ceiling, bar_slabs}
use Rattle.std.specs.List.{AllZip}

-- ---- a bar that leaves a way above it: four cells, and the walls between them above the bar
abbrev bar_regions : List Lot
bar_regions = cell 0 0 ∷ wall 1 1 ∷ cell 1 0 ∷ wall 2 0 ∷ cell 2 0 ∷ wall 3 1 ∷ cell 3 0 ∷ []

-- the first slab's floor meets the line at 8 in its mark 0, the bar's upper side in its mark 1
floor_meets : on_right bar_slabs 0 0 ≡ 0
floor_meets = refl

bar_meets : on_left bar_slabs 1 0 ≡ 1
bar_meets = refl

-- the wall above the bar is in a side of both cells; two cells are no neighbours, and numbers beyond the regions have none
wall_and_cell : neighbours bar_slabs bar_regions 1 2 ≡ true
wall_and_cell = refl

cell_and_wall : neighbours bar_slabs bar_regions 0 1 ≡ true
cell_and_wall = refl

two_cells : neighbours bar_slabs bar_regions 0 2 ≡ false
two_cells = refl

far_wall : neighbours bar_slabs bar_regions 0 3 ≡ false
far_wall = refl

beyond : neighbours bar_slabs bar_regions 7 8 ≡ false
beyond = refl

-- one walk leads over the bar; leaving a wall out gives none
over_bar : IsWalk (AreNeighbours bar_slabs bar_regions) 0 6 (0 ∷ 1 ∷ 2 ∷ 3 ∷ 4 ∷ 5 ∷ 6 ∷ [])
over_bar = (refl, (refl, (refl, (refl, (refl, (refl, (refl, refl)))))))

without_wall : ¬ (IsWalk (AreNeighbours bar_slabs bar_regions) 0 6 (0 ∷ 2 ∷ 3 ∷ 4 ∷ 5 ∷ 6 ∷ []))
without_wall (e, (step, rest)) = absurd (cc)

-- list order is decided where two walks first differ
earlier : NotAfter (0 ∷ 1 ∷ 9 ∷ []) (0 ∷ 2 ∷ 3 ∷ [])
earlier = inr (refl, inl (omega arith))

later : ¬ (NotAfter (0 ∷ 2 ∷ []) (0 ∷ 1 ∷ []))
later (inl h) = omega arith
later (inr (e, inl h)) = omega arith
later (inr (e, inr (f, h))) = omega arith

-- the path from (2, 2) to (15, 2), and from a start on the line at 8: a point halfway up each region
abbrev halves : ℤ → ℤ → Vector
halves x y = record { x = x; y = y; w = pos 2 }

path_over_bar : AllZip Same (
    spot (pos 2) (pos 2) ∷ halves (pos 8) (pos 19) ∷ halves (pos 16) (pos 29) ∷ halves (pos 17) (pos 29) ∷ halves (pos 18) (pos 29) ∷ halves (pos 20) (pos 29) ∷ halves (pos 22) (pos 29) ∷ halves (pos 30) (pos 19) ∷ spot (pos 15) (pos 2) ∷ []
    ) (path_along bar_slabs bar_regions (spot (pos 2) (pos 2)) (spot (pos 15) (pos 2)) (0 ∷ 1 ∷ 2 ∷ 3 ∷ 4 ∷ 5 ∷ 6 ∷ []))
path_over_bar = ((refl, refl), ((refl, refl), ((refl, refl), ((refl, refl), ((refl, refl), ((refl, refl), ((refl, refl), ((refl, refl), ((refl, refl), tt)))))))))

-- a start at the point of its wall is given once
from_wall : AllZip Same (halves (pos 16) (pos 29) ∷ halves (pos 17) (pos 29) ∷ spot (pos 8) (pos 11) ∷ []) (path_along bar_slabs bar_regions (halves (pos 16) (pos 29)) (spot (pos 8) (pos 11)) (1 ∷ 2 ∷ []))
from_wall = ((refl, refl), ((refl, refl), ((refl, refl), tt)))

-- in one region the way is straight, and one point where the goal is the start
straight : path_along bar_slabs bar_regions (spot (pos 2) (pos 2)) (spot (pos 5) (pos 5)) (0 ∷ []) ≡ spot (pos 2) (pos 2) ∷ spot (pos 5) (pos 5) ∷ []
straight = refl

at_goal : path_along bar_slabs bar_regions (spot (pos 2) (pos 2)) (spot (pos 2) (pos 2)) (0 ∷ []) ≡ spot (pos 2) (pos 2) ∷ []
at_goal = refl

-- of the cell left of the bar its floor, the bar's side, its ceiling and the room's left side are kept, and not the wall above the bar
kept_beside_bar : kept bar_slabs bar_regions (cell 0 0) ≡ flat (pos 0) (pos 0) (pos 8) (pos 0) ∷ flat (pos 8) (pos 0) (pos 8) (pos 10) ∷ flat (pos 0) (pos 19) (pos 8) (pos 19) ∷ flat (pos 0) (pos 0) (pos 0) (pos 19) ∷ []
kept_beside_bar = refl

-- ---- a bar from the floor to the ceiling: a cell on each side of it
abbrev tall_slabs : Slabs
tall_slabs = record {
  lines = spot (pos 0) (pos 0) ∷ spot (pos 8) (pos 0) ∷ spot (pos 11) (pos 0) ∷ spot (pos 19) (pos 0) ∷ [];
  spans = (floor ∷ ceiling ∷ []) ∷ [] ∷ (floor ∷ ceiling ∷ []) ∷ [];
  marks = (spot (pos 0) (pos 0) ∷ spot (pos 0) (pos 19) ∷ []) ∷ (spot (pos 8) (pos 0) ∷ spot (pos 8) (pos 19) ∷ []) ∷ (spot (pos 11) (pos 0) ∷ spot (pos 11) (pos 19) ∷ []) ∷ (spot (pos 19) (pos 0) ∷ spot (pos 19) (pos 19) ∷ []) ∷ [];
}

abbrev tall_regions : List Lot
tall_regions = cell 0 0 ∷ cell 2 0 ∷ []

abbrev left_ring : List Segment
left_ring = flat (pos 0) (pos 0) (pos 8) (pos 0) ∷ flat (pos 8) (pos 0) (pos 8) (pos 19) ∷ flat (pos 0) (pos 19) (pos 8) (pos 19) ∷ flat (pos 0) (pos 0) (pos 0) (pos 19) ∷ []

no_way : neighbours tall_slabs tall_regions 0 1 ≡ false
no_way = refl

-- the ring of the left cell alone is odd at (2, 2) and even at (15, 2); that of all regions is odd at both
ring_of_left : ring tall_slabs tall_regions (0 ∷ []) ≡ left_ring
ring_of_left = refl

odd_on_left : parity (ring tall_slabs tall_regions (0 ∷ [])) (spot (pos 2) (pos 2)) ≡ true
odd_on_left = refl

even_on_right : parity (ring tall_slabs tall_regions (0 ∷ [])) (spot (pos 15) (pos 2)) ≡ false
even_on_right = refl

odd_on_both : parity (ring tall_slabs tall_regions (0 ∷ 1 ∷ [])) (spot (pos 15) (pos 2)) ≡ true
odd_on_both = refl
