-- The laws of slabs and regions.
use Rattle.std.specs.Prelude.{◌≡◌, ◌⊎◌, ◌↔◌, ℕ, suc, ◌<◌, ◌≤◌, List, length, Any, Contains}
use Rattle.plan_spec.specs.Vector.{Vector, IsPoint, LeX, LtX, LtY, SameX, Same}
use Rattle.plan_spec.specs.Segment.{HasPoints, On}
use Rattle.plan_spec.specs.Frame.{Frame}
use Rattle.plan_spec.specs.Boundary.{IsUncovered, IsClearOf, boundary}
use Rattle.plan_spec.specs.Pieces.{Piece, IsBoundaryOf}
use Rattle.plan_spec.specs.Slabs.{Slabs, line_at, spans_of, span_at, marks_of, AreSlabs, piece_at, InSlab, Reaches, LiesOn, Below, size}
use Rattle.plan_spec.specs.Reply.{IsTight}
use Rattle.plan_spec.specs.Regions.{Lot, wall, Holds, IsLot, spot_of, AreRegions, region_at, IsIn}
use Rattle.plan_plane.proofs.Boundary.Floor.{IsFloor}
use Rattle.plan_slab.specs.LotOrder.{Earlier}
use Rattle.plan_slab.specs.Levels.{Lower, Level, strand}
use Rattle.plan_spec.specs.Neighbours.{meets}
use Rattle.plan_slab.specs.Meets.{MeetsMark, IsSloped}
use Rattle.plan_slab.specs.Decomposition.{IsDecomposition}

-- the slabs of the pieces that convex sums and a room leave
pub record AreSlabsOf (sums : List (List Vector)) (room : Frame) (pieces : List Piece) (σ : Slabs) : Type 0 where
  pub floor : IsFloor sums room
  pub bound : IsBoundaryOf sums room pieces
  pub slabs : AreSlabs sums room pieces σ

-- each cell and each wall has the point by which it is tested, and is clear at each of its points or at none
abbrev pub OneKind : Type 0
OneKind =
    (sums : List (List Vector)) (room : Frame) (pieces : List Piece) (σ : Slabs) → AreSlabsOf sums room pieces σ → (lot : Lot) → IsLot σ lot
    → (IsPoint (spot_of σ lot) × Holds σ lot (spot_of σ lot)) × ((p q : Vector) → IsPoint p → IsPoint q → Holds σ lot p → Holds σ lot q → IsClearOf sums room p → IsClearOf sums room q)

-- a point is clear exactly where it is in exactly one region
abbrev pub ExactlyOne : Type 0
ExactlyOne =
    (sums : List (List Vector)) (room : Frame) (pieces : List Piece) (σ : Slabs) (found : List Lot) → AreSlabsOf sums room pieces σ → AreRegions sums room σ found
    → (z : Vector) → IsPoint z → IsClearOf sums room z ↔ ((n : ℕ) × IsIn σ found z n)

-- a cell or wall that is no region is clear nowhere
abbrev pub OthersTouch : Type 0
OthersTouch =
    (sums : List (List Vector)) (room : Frame) (pieces : List Piece) (σ : Slabs) (found : List Lot) → AreSlabsOf sums room pieces σ → AreRegions sums room σ found
    → (lot : Lot) → IsLot σ lot → ¬ (Contains found lot) → (z : Vector) → IsPoint z → Holds σ lot z → ¬ (IsClearOf sums room z)

-- each region is a cell or a wall, and they are numbered in their order
abbrev pub InOrder : Type 0
InOrder =
    (sums : List (List Vector)) (room : Frame) (pieces : List Piece) (σ : Slabs) (found : List Lot) → AreSlabsOf sums room pieces σ → AreRegions sums room σ found
    → (m n : ℕ) → m < length found → n < length found → IsLot σ (region_at found n) × ((m < n) ↔ Earlier (region_at found m) (region_at found n))

-- a wall with a clear point is neither on the first line nor on the last
abbrev pub InnerWalls : Type 0
InnerWalls =
    (sums : List (List Vector)) (room : Frame) (pieces : List Piece) (σ : Slabs) → AreSlabsOf sums room pieces σ → (k j : ℕ) → IsLot σ (wall k j) → (z : Vector) → IsPoint z → Holds σ (wall k j) z → IsClearOf sums room z → (0 < k) × (suc k < length σ.lines)

-- where there is a region, the room has width and height
abbrev pub ProperRoom : Type 0
ProperRoom =
    (sums : List (List Vector)) (room : Frame) (pieces : List Piece) (σ : Slabs) (found : List Lot) → AreSlabsOf sums room pieces σ → AreRegions sums room σ found → 0 < length found → LtX room.low room.high × LtY room.low room.high

-- each span meets both lines of its slab in a mark, the line h being one of the two, and of two neighbours the lower one in no higher mark
abbrev pub SpansMeet : Type 0
SpansMeet =
    (sums : List (List Vector)) (room : Frame) (pieces : List Piece) (σ : Slabs) → AreSlabsOf sums room pieces σ → (k h i : ℕ) → k < length σ.spans → (h ≡ k) ⊎ (h ≡ suc k)
    → (i < length (spans_of σ k) → MeetsMark (span_at σ k i) (marks_of σ h)) × (suc i < length (spans_of σ k) → meets (span_at σ k i) (marks_of σ h) ≤ meets (span_at σ k (suc i)) (marks_of σ h))

-- each span is from left to right, from a line or before it to the next or beyond it, and no point of it is clear, as both ends are in one sum or beyond one side of the room
abbrev pub SpansTight : Type 0
SpansTight =
    (sums : List (List Vector)) (room : Frame) (pieces : List Piece) (σ : Slabs) → AreSlabsOf sums room pieces σ → (k i : ℕ) → k < length σ.spans → i < length (spans_of σ k)
    → HasPoints (span_at σ k i) × LtX (span_at σ k i).a (span_at σ k i).b × LeX (span_at σ k i).a (line_at σ k) × LeX (line_at σ (suc k)) (span_at σ k i).b × IsTight sums room (span_at σ k i)

-- what no sum covers of an edge that is not upright is on a line a mark of the line
abbrev pub MarkRule : Type 0
MarkRule =
    (sums : List (List Vector)) (room : Frame) (pieces : List Piece) (σ : Slabs) → AreSlabsOf sums room pieces σ → (k : ℕ) → k < length σ.marks → (z : Vector) → IsPoint z → SameX z (line_at σ k)
    → IsUncovered sums room z → Any (λ e. IsSloped e × On e z) (boundary sums room) → Any (Same z) (marks_of σ k)

-- of two pieces that go across a slab, heights at one point of it decide: the lower one is below the other throughout, and where they are level the one lies along the other
abbrev pub OneOrder : Type 0
OneOrder =
    (sums : List (List Vector)) (room : Frame) (pieces : List Piece) → IsFloor sums room → IsBoundaryOf sums room pieces → (l r m : Vector) → IsPoint l → IsPoint r → IsPoint m → InSlab l r m
    → (i j : ℕ) → i < length pieces → j < length pieces → Reaches l r (piece_at pieces i) → Reaches l r (piece_at pieces j)
    → (Lower m (strand sums room (piece_at pieces i)) (strand sums room (piece_at pieces j)) → Below l r (strand sums room (piece_at pieces i)) (strand sums room (piece_at pieces j)))
    × (Level m (strand sums room (piece_at pieces i)) (strand sums room (piece_at pieces j)) → LiesOn (strand sums room (piece_at pieces i)) (piece_at pieces j))

-- pieces have slabs, and slabs have regions
abbrev pub SlabsExist : Type 0
SlabsExist = (sums : List (List Vector)) (room : Frame) (pieces : List Piece) → IsFloor sums room → IsBoundaryOf sums room pieces → (σ : Slabs) × (found : List Lot) × AreSlabsOf sums room pieces σ × AreRegions sums room σ found

-- all slabs of the same pieces have one size
abbrev pub OneSize : Type 0
OneSize = (sums : List (List Vector)) (room : Frame) (pieces : List Piece) (σ τ : Slabs) → AreSlabsOf sums room pieces σ → AreSlabsOf sums room pieces τ → size σ ≡ size τ

-- slabs and their regions have, by number, all that walks and rings take of them
abbrev pub Decompose : Type 0
Decompose = (sums : List (List Vector)) (room : Frame) (pieces : List Piece) (σ : Slabs) (found : List Lot) → AreSlabsOf sums room pieces σ → AreRegions sums room σ found → IsDecomposition sums room σ found
