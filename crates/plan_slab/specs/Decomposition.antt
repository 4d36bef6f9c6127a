-- What walks and rings take of slabs and their regions, by number, and nothing of how they are found.
use Rattle.std.specs.Prelude.{◌≡◌, ◌⊎◌, ◌↔◌, ℕ, suc, ◌<◌, ◌≤◌, pos, true, false, List, length, Any}
use Rattle.plan_spec.specs.Vector.{Vector, IsPoint, LeX, LtX, LtY, SameX, Same, turn}
use Rattle.plan_spec.specs.Segment.{HasPoints, On}
use Rattle.plan_spec.specs.Polygon.{Inside}
use Rattle.plan_spec.specs.Frame.{Frame, OnOrBeyond}
use Rattle.plan_spec.specs.Placement.{Scene, Touches}
use Rattle.plan_spec.specs.Boundary.{IsUncovered, IsClearOf, boundary}
use Rattle.plan_spec.specs.Slabs.{Slabs, line_at, spans_of, span_at, marks_of, mark_at}
use Rattle.plan_spec.specs.Reply.{IsTight}
use Rattle.plan_spec.specs.Regions.{Lot, cell, wall, Holds, spot_of, region_at, IsIn}
use Rattle.plan_spec.specs.Neighbours.{on_left, on_right}
use Rattle.plan_spec.specs.Rings.{has_wall}
use Rattle.plan_plane.proofs.Boundary.Floor.{IsFloor}
use Rattle.plan_slab.specs.Meets.{IsSloped}

-- ---- the numbers
-- each region stands once, and is a cell or a wall; the free walls are those among them
pub record AreOnce (σ : Slabs) (found : List Lot) : Type 0 where
  pub once : (m n : ℕ) → m < length found → n < length found → region_at found m ≡ region_at found n → m ≡ n
  pub listed : (k j : ℕ) → has_wall found k j ≡ true → (n : ℕ) × (n < length found) × (region_at found n ≡ wall k j)
  pub free_walls : (n k j : ℕ) → n < length found → region_at found n ≡ wall k j → has_wall found k j ≡ true
  pub cells : (n k i : ℕ) → n < length found → region_at found n ≡ cell k i → (suc k < length σ.lines) × (suc i < length (spans_of σ k))
  pub walls : (n k j : ℕ) → n < length found → region_at found n ≡ wall k j → (k < length σ.lines) × (suc j < length (marks_of σ k))

-- of two neighbouring spans the lower one does not meet a line above the upper one
pub record AreInOrder (σ : Slabs) : Type 0 where
  pub on_left_rises : (k i : ℕ) → suc i < length (spans_of σ k) → on_left σ k i ≤ on_left σ k (suc i)
  pub on_right_rises : (k i : ℕ) → suc i < length (spans_of σ k) → on_right σ k i ≤ on_right σ k (suc i)

-- ---- where they lie
-- lines and marks rise, marks are on their lines, and each span goes across its slab through the marks that it meets
pub record IsPlaced (σ : Slabs) : Type 0 where
  pub line_points : (k : ℕ) → k < length σ.lines → IsPoint (line_at σ k)
  pub mark_points : (k j : ℕ) → k < length σ.lines → j < length (marks_of σ k) → IsPoint (mark_at σ k j)
  pub on_line : (k j : ℕ) → k < length σ.lines → j < length (marks_of σ k) → SameX (mark_at σ k j) (line_at σ k)
  pub lines_rise : (j k : ℕ) → j < k → k < length σ.lines → LtX (line_at σ j) (line_at σ k)
  pub marks_rise : (k i j : ℕ) → k < length σ.lines → i < j → j < length (marks_of σ k) → LtY (mark_at σ k i) (mark_at σ k j)
  pub left_marks : (k i : ℕ) → suc k < length σ.lines → i < length (spans_of σ k) → on_left σ k i < length (marks_of σ k)
  pub right_marks : (k i : ℕ) → suc k < length σ.lines → i < length (spans_of σ k) → on_right σ k i < length (marks_of σ (suc k))
  pub rightward : (k i : ℕ) → suc k < length σ.lines → i < length (spans_of σ k) → LtX (span_at σ k i).a (span_at σ k i).b
  pub left_on_span : (k i : ℕ) → suc k < length σ.lines → i < length (spans_of σ k) → turn (span_at σ k i).a (span_at σ k i).b (mark_at σ k (on_left σ k i)) ≡ pos 0
  pub right_on_span : (k i : ℕ) → suc k < length σ.lines → i < length (spans_of σ k) → turn (span_at σ k i).a (span_at σ k i).b (mark_at σ (suc k) (on_right σ k i)) ≡ pos 0

-- ---- what is clear
-- on or beyond the room, or in a sum
abbrev pub Touched : List (List Vector) → Frame → Vector → Type 0
Touched sums room z = OnOrBeyond room z ⊎ Any (λ vs. Inside vs z) sums

pub record IsDecomposition (sums : List (List Vector)) (room : Frame) (σ : Slabs) (found : List Lot) : Type 0 where
  pub floor : IsFloor sums room
  pub once : AreOnce σ found
  pub order : AreInOrder σ
  pub placed : IsPlaced σ
  -- a span goes across its slab and is tight
  pub span_points : (k i : ℕ) → suc k < length σ.lines → i < length (spans_of σ k) → HasPoints (span_at σ k i)
  pub span_tight : (k i : ℕ) → suc k < length σ.lines → i < length (spans_of σ k) → IsTight sums room (span_at σ k i)
  pub across : (k i : ℕ) → suc k < length σ.lines → i < length (spans_of σ k) → LeX (span_at σ k i).a (line_at σ k) × LeX (line_at σ (suc k)) (span_at σ k i).b
  -- each region has its point, each point of a region is clear, and each clear point is in one region
  pub spots : (n : ℕ) → n < length found → IsPoint (spot_of σ (region_at found n)) × Holds σ (region_at found n) (spot_of σ (region_at found n))
  pub clear : (n : ℕ) (z : Vector) → n < length found → IsPoint z → Holds σ (region_at found n) z → IsClearOf sums room z
  pub covers : (z : Vector) → IsPoint z → IsClearOf sums room z → (n : ℕ) × IsIn σ found z n
  -- the point of a wall that is no region touches
  pub closed_walls : (k j : ℕ) → k < length σ.lines → suc j < length (marks_of σ k) → has_wall found k j ≡ false → IsPoint (spot_of σ (wall k j)) × Holds σ (wall k j) (spot_of σ (wall k j)) × Touched sums room (spot_of σ (wall k j))
  -- on a line, what no sum covers of edges that are not upright is a mark
  pub mark_rule : (k : ℕ) (z : Vector) → k < length σ.lines → IsPoint z → SameX z (line_at σ k) → IsUncovered sums room z → Any (λ e. IsSloped e × On e z) (boundary sums room) → (j : ℕ) × (j < length (marks_of σ k)) × Same z (mark_at σ k j)

-- ---- of a scene
-- the sums and the room of a scene: it touches exactly where the placement is on or beyond the room or in a sum
pub record IsFloorOf (scene : Scene) (sums : List (List Vector)) (room : Frame) : Type 0 where
  pub floor : IsFloor sums room
  pub touches : (z : Vector) → IsPoint z → Touches scene z ↔ Touched sums room z
