-- The marks in which spans meet the lines of their slabs, and the neighbours of regions, as tables.
use Rattle.std.specs.Prelude.{◌≡◌, ℕ, suc, ◌<◌, ◌≤◌, List, [], length, get_or, All, AllPairs}
use Rattle.plan_spec.specs.Vector.{Vector}
use Rattle.plan_spec.specs.Segment.{Segment}
use Rattle.plan_spec.specs.Slabs.{Slabs, nothing, spans_of, marks_of}
use Rattle.plan_spec.specs.Regions.{Lot, IsLot}
use Rattle.plan_spec.specs.Neighbours.{meets, on_left, on_right}
use Rattle.plan_grid.specs.Spot.{IsWithin}
use Rattle.plan_grid.specs.declared.bounds.TheConstants.{MOST_COORDINATE}
use Rattle.plan_slab.specs.declared.row.Row.{Row}
use Rattle.plan_slab.specs.declared.strand.Strand.{Strand}
use Rattle.plan_slab.specs.Decomposition.{AreInOrder}
use Rattle.plan_slab.specs.LotOrder.{Earlier}
use Rattle.plan_slab.specs.Sides.{AreLeftOf, AreRightOf}

-- ---- ends of spans
-- both ends have coordinates of at most 2046
pub record IsSpotted (s : Strand) : Type 0 where
  pub a_bounded : IsWithin MOST_COORDINATE s.a
  pub b_bounded : IsWithin MOST_COORDINATE s.b

-- of two neighbouring spans the lower one meets a line in no higher mark
abbrev pub MeetInOrder : List Segment → List Vector → Type 0
MeetInOrder ss ms = (i : ℕ) → suc i < length ss → meets (get_or ss i nothing) ms ≤ meets (get_or ss (suc i) nothing) ms

-- of each span the number of the mark in which it meets a line
pub record AreMeets (ss : List Segment) (ms : List Vector) (ns : List ℕ) : Type 0 where
  pub count : length ns ≡ length ss
  pub each : (i d : ℕ) → i < length ss → get_or ns i d ≡ meets (get_or ss i nothing) ms

-- the numbers of each place
pub record ArePairs (ls rs : List ℕ) (pairs : List (ℕ × ℕ)) : Type 0 where
  pub count : length pairs ≡ length ls
  pub each : (i m n : ℕ) (d : ℕ × ℕ) → i < length ls → get_or pairs i d ≡ (get_or ls i m, get_or rs i n)

-- of each span of slab k the number of the mark on its left, and of that on its right
pub record AreEndsOf (σ : Slabs) (k : ℕ) (row : List (ℕ × ℕ)) : Type 0 where
  pub count : length row ≡ length (spans_of σ k)
  pub left : (i : ℕ) (d : ℕ × ℕ) → i < length (spans_of σ k) → (get_or row i d).0 ≡ on_left σ k i
  pub right : (i : ℕ) (d : ℕ × ℕ) → i < length (spans_of σ k) → (get_or row i d).1 ≡ on_right σ k i

-- of each span of each slab the number of the mark on its left, and of that on its right
pub record AreEnds (σ : Slabs) (ends : List (List (ℕ × ℕ))) : Type 0 where
  pub slab_count : length ends ≡ length σ.spans
  pub span_count : (k : ℕ) → k < length σ.spans → length (get_or ends k []) ≡ length (spans_of σ k)
  pub left : (k i : ℕ) (d : ℕ × ℕ) → k < length σ.spans → i < length (spans_of σ k) → (get_or (get_or ends k []) i d).0 ≡ on_left σ k i
  pub right : (k i : ℕ) (d : ℕ × ℕ) → k < length σ.spans → i < length (spans_of σ k) → (get_or (get_or ends k []) i d).1 ≡ on_right σ k i

-- ---- neighbours
-- regions in their order, and the ends of spans, by which neighbours are found; at most 131,072 in a row
pub record AreTabled (σ : Slabs) (found : List Lot) (table : List (List (ℕ × ℕ))) : Type 0 where
  pub ends : AreEnds σ table
  pub order : AreInOrder σ
  pub lots : All (IsLot σ) found
  pub rising : AllPairs Earlier found
  pub few_regions : length found ≤ 131072
  pub few_slabs : length σ.spans ≤ 131072
  pub few_spans : (k : ℕ) → length (spans_of σ k) ≤ 131072
  pub few_marks : (k : ℕ) → length (marks_of σ k) ≤ 131072

-- of each region the numbers of its neighbours
pub record AreNeighbourRows (σ : Slabs) (found : List Lot) (rows : List Row) : Type 0 where
  pub count : length rows ≡ length found
  pub left : (n : ℕ) (d : Row) → n < length found → AreLeftOf σ found n (get_or rows n d).left.start (get_or rows n d).left.end
  pub right : (n : ℕ) (d : Row) → n < length found → AreRightOf σ found n (get_or rows n d).right.start (get_or rows n d).right.end
