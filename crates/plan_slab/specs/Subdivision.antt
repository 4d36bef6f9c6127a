-- What the readers of slabs tell, and what they rest on.
use Rattle.std.specs.Prelude.{◌≡◌, ℕ, ◌<◌, ◌≤◌, Option, MatchOption, List, [], length, map, get_or, All, AllPairs, Contains}
use Rattle.plan_spec.specs.Slabs.{Slabs}
use Rattle.plan_spec.specs.Slabs.{size}
use Rattle.plan_spec.specs.Regions as spec
use Rattle.plan_spec.specs.Regions.{IsLot}
use Rattle.plan_grid.specs.Fraction.{Fraction}
use Rattle.plan_slab.specs.declared.lot.Lot.{Lot}
use Rattle.plan_slab.specs.declared.strand.Strand.{Strand}
use Rattle.plan_slab.specs.declared.row.Row.{Row}
use Rattle.plan_slab.specs.Decomposition.{AreInOrder, IsPlaced}
use Rattle.plan_slab.specs.Ends.{AreEnds, AreNeighbourRows}
use Rattle.plan_slab.specs.FreeLots.{AreRows}
use Rattle.plan_slab.specs.Heights.{IsHeightOn}
use Rattle.plan_slab.specs.LotOrder.{Earlier}
use Rattle.plan_slab.specs.Seen.{lot_seen}
use Rattle.plan_slab.specs.SlabsSeen.{slabs_seen}

-- lines, spans, marks, regions, and how many spans and marks there are
pub record Subdivision : Type 0 where
  pub lines : List Fraction
  pub spans : List (List Strand)
  pub marks : List (List Fraction)
  pub lots : List Lot
  pub size : ℕ

abbrev pub slabs_of : Subdivision → Slabs
slabs_of s = slabs_seen s.lines s.spans s.marks

abbrev pub regions_of : Subdivision → List spec.Lot
regions_of s = map lot_seen s.lots

-- regions are lots in their order, and spans meet the lines of their slab in marks, in their order
pub record IsSubdivision (s : Subdivision) : Type 0 where
  pub rows : AreRows s.lines s.spans s.marks
  pub size_is : s.size ≡ size (slabs_of s)
  pub few : s.size ≤ 131072
  pub few_regions : length s.lots ≤ 131072
  pub lots : All (IsLot (slabs_of s)) (regions_of s)
  pub rising : AllPairs Earlier (regions_of s)
  pub on_lines : (k : ℕ) (d : Fraction) → k < length s.marks → All (IsHeightOn (get_or s.lines k d)) (get_or s.marks k [])
  pub order : AreInOrder (slabs_of s)
  pub placed : IsPlaced (slabs_of s)

-- Some n where region n is the lot, and None where none is
abbrev pub IsNumberOf : Subdivision → spec.Lot → Option ℕ → Type 0
IsNumberOf s lot n = MatchOption n (¬ (Contains (regions_of s) lot)) (λ k. (k < length (regions_of s)) × (spec.region_at (regions_of s) k ≡ lot))

-- what is kept beside it: the marks in which spans meet their lines, and the neighbours of regions
pub record IsKept (s : Subdivision) (met : List (List (ℕ × ℕ))) (beside : List Row) : Type 0 where
  pub subdivision : IsSubdivision s
  pub ends : AreEnds (slabs_of s) met
  pub rows : AreNeighbourRows (slabs_of s) (regions_of s) beside
