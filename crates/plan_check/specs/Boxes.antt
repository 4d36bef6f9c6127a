-- Boxes of sums, and boxes with whole-number corners of segments between rational points.
use Rattle.std.specs.Prelude.{◌≡◌, ◌↔◌, ◌⊎◌, ℕ, ℤ, ◌*ℤ◌, ◌≤ℤ◌, ◌<◌, List, length, slice_index_or, All}
use Rattle.plan_spec.specs.Vector.{Vector}
use Rattle.plan_spec.specs.Polygon.{Inside}
use Rattle.plan_grid.specs.declared.frame.Frame.{Frame}
use Rattle.plan_grid.specs.declared.spot.Spot.{Spot}
use Rattle.plan_convex.specs.Boxes.{Encloses}

-- a box for each polygon, which encloses its vertices
pub record AreBoxes (sums : List (List Spot)) (boxes : List Frame) : Type 0 where
  pub as_many : length boxes ≡ length sums
  pub each : (k : ℕ) (vs : List Spot) (box : Frame) → k < length sums → All (Encloses (slice_index_or boxes k box)) (slice_index_or sums k vs)

-- the polygon has both points
abbrev pub HoldsBoth : Vector → Vector → List Vector → Type 0
HoldsBoth p q vs = Inside vs p × Inside vs q

-- p is not right of q, and not above it
abbrev pub IsLowerLeft : Spot → Spot → Type 0
IsLowerLeft p q = (p.x ≤ℤ q.x) × (p.y ≤ℤ q.y)

-- the one box has all of the other
abbrev pub HoldsBox : Frame → Frame → Type 0
HoldsBox f g = IsLowerLeft f.low g.low × IsLowerLeft g.high f.high

-- the one box is on or beyond the left or the right side of the other
abbrev pub IsBeside : Frame → Frame → Type 0
IsBeside f g = (g.high.x ≤ℤ f.low.x) ⊎ (f.high.x ≤ℤ g.low.x)

-- the one box is on or beyond the bottom or the top of the other
abbrev pub IsAboveOrBelow : Frame → Frame → Type 0
IsAboveOrBelow f g = (g.high.y ≤ℤ f.low.y) ⊎ (f.high.y ≤ℤ g.low.y)

-- the coordinates of p, each rounded down: the whole numbers that are at most the one are those that are at most the other
pub record IsRoundedDown (p : Vector) (s : Spot) : Type 0 where
  pub x : (m : ℤ) → (m ≤ℤ s.x) ↔ ((m *ℤ p.w) ≤ℤ p.x)
  pub y : (m : ℤ) → (m ≤ℤ s.y) ↔ ((m *ℤ p.w) ≤ℤ p.y)

-- the coordinates of p, each rounded up
pub record IsRoundedUp (p : Vector) (s : Spot) : Type 0 where
  pub x : (m : ℤ) → (s.x ≤ℤ m) ↔ (p.x ≤ℤ (m *ℤ p.w))
  pub y : (m : ℤ) → (s.y ≤ℤ m) ↔ (p.y ≤ℤ (m *ℤ p.w))

-- the least box with whole-number corners that has both points
pub record IsWholeBox (p q : Vector) (box : Frame) : Type 0 where
  pub left : (m : ℤ) → (m ≤ℤ box.low.x) ↔ (((m *ℤ p.w) ≤ℤ p.x) × ((m *ℤ q.w) ≤ℤ q.x))
  pub right : (m : ℤ) → (box.high.x ≤ℤ m) ↔ ((p.x ≤ℤ (m *ℤ p.w)) × (q.x ≤ℤ (m *ℤ q.w)))
  pub below : (m : ℤ) → (m ≤ℤ box.low.y) ↔ (((m *ℤ p.w) ≤ℤ p.y) × ((m *ℤ q.w) ≤ℤ q.y))
  pub above : (m : ℤ) → (box.high.y ≤ℤ m) ↔ ((p.y ≤ℤ (m *ℤ p.w)) × (q.y ≤ℤ (m *ℤ q.w)))
