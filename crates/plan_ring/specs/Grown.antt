-- Chains by the positions of their ends, and what has been added to one.
use Rattle.std.specs.Prelude.{ℕ, List, [], ◌∷◌, ◌++◌, map, if◌then◌else◌}
use Rattle.std.specs.List.{AllZip}
use Rattle.plan_spec.specs.Vector.{Same}
use Rattle.plan_spec.specs.Segment as spec
use Rattle.plan_spec.specs.Neighbours.{AreNeighbours}
use Rattle.plan_spec.specs.Regions.{Lot}
use Rattle.plan_spec.specs.Rings.{ring, has_wall, part}
use Rattle.plan_spec.specs.Slabs.{Slabs}
use Rattle.plan_spec.specs.Walks.{IsComponent}
use Rattle.plan_grid.specs.Bounds.{IsInRange}
use Rattle.plan_cross.specs.declared.segment.Segment.{Segment}
use Rattle.plan_cross.specs.Segment.{segment_seen}

-- ends at the same positions, and in lowest terms
pub record IsLowestAt (s t : spec.Segment) : Type 0 where
  pub a : Same s.a t.a
  pub b : Same s.b t.b
  pub a_lowest : IsInRange s.a
  pub b_lowest : IsInRange s.b

abbrev pub AreAlike : List spec.Segment → List spec.Segment → Type 0
AreAlike = AllZip IsLowestAt

-- the new list is the old one with these segments behind it
abbrev pub HasAdded : List Segment → List Segment → List spec.Segment → Type 0
HasAdded old new ss = (before : List spec.Segment) → AreAlike (map segment_seen old) before → AreAlike (map segment_seen new) (before ++ ss)

-- the part of line k above mark j, unless it is a free wall
abbrev pub closed_part : Slabs → List Lot → ℕ → ℕ → List spec.Segment
closed_part σ found k j = if has_wall found k j then [] else part σ k j ∷ []

-- end by end the ring of the component of region m
pub record IsRingOf (σ : Slabs) (found : List Lot) (m : ℕ) (chain : List spec.Segment) : Type 0 where
  pub component : List ℕ
  pub is_component : IsComponent (AreNeighbours σ found) m component
  pub is_ring : AllZip (λ s t. Same s.a t.a × Same s.b t.b) chain (ring σ found component)
