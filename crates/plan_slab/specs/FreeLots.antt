-- Which cells of a slab and which walls of a line are free, and what the tests of them take of lines, spans and marks.
use Rattle.std.specs.Prelude.{◌≡◌, ℕ, suc, ◌-◌, ◌<◌, ◌≤◌, List, [], ◌++◌, length, get_or, All}
use Rattle.plan_spec.specs.Vector.{Vector}
use Rattle.plan_spec.specs.Segment.{Segment}
use Rattle.plan_spec.specs.Frame.{Frame}
use Rattle.plan_spec.specs.Boundary.{IsClearOf}
use Rattle.plan_spec.specs.Slabs.{Slabs, line_at, nowhere, nothing}
use Rattle.plan_spec.specs.Regions.{Lot, Kept, cells, walls, foot, halfway, mediant, spot_of}
use Rattle.plan_grid.specs.Fraction.{Fraction}
use Rattle.plan_slab.specs.declared.strand.Strand.{Strand}
use Rattle.plan_slab.specs.EventLines.{IsLine}
use Rattle.plan_slab.specs.Heights.{IsHeight, IsOver}
use Rattle.plan_slab.specs.LotOrder.{index}
use Rattle.plan_slab.specs.SlabsSeen.{slabs_seen}

-- the point of the cell above that span, at the x of a point x, is clear
abbrev pub IsFreeCell : List (List Vector) → Frame → Vector → List Segment → Lot → Type 0
IsFreeCell sums room x ss lot = IsClearOf sums room (halfway (foot (get_or ss (index lot) nothing) x) (foot (get_or ss (suc (index lot)) nothing) x))

-- the point of the wall above that mark is clear
abbrev pub IsFreeWall : List (List Vector) → Frame → List Vector → Lot → Type 0
IsFreeWall sums room ms lot = IsClearOf sums room (halfway (get_or ms (index lot) nowhere) (get_or ms (suc (index lot)) nowhere))

-- the free cells of slab k, then the free walls of the line on its right
abbrev pub AreFreeOf : List (List Vector) → Frame → Slabs → ℕ → List Lot → Type 0
AreFreeOf sums room σ k found = Kept (λ lot. IsClearOf sums room (spot_of σ lot)) (cells σ k ++ walls σ (suc k)) found

-- lines, heights of marks, and spans that go across their slabs; at most 131,072 of each in a row
pub record AreRows (lines : List Fraction) (spans : List (List Strand)) (marks : List (List Fraction)) : Type 0 where
  pub each_line : All IsLine lines
  pub few_lines : length lines ≤ 131072
  pub slab_count : length spans ≡ length lines - 1
  pub line_count : length marks ≡ length lines
  pub few_spans : All (λ ss. length ss ≤ 131072) spans
  pub few_marks : All (λ ms. length ms ≤ 131072) marks
  pub heights : All (All IsHeight) marks
  pub across : (k : ℕ) → k < length spans → All (λ s. IsOver s (mediant (line_at (slabs_seen lines spans marks) k) (line_at (slabs_seen lines spans marks) (suc k)))) (get_or spans k [])
