-- Which sums may hold a point at a given x, by their boxes, and what is then left to test.
use Rattle.std.specs.Prelude.{◌≡◌, ℕ, ◌<◌, ◌*ℤ◌, ◌≤ℤ◌, ◌<ℤ◌, List, length, get_or, All, Contains}
use Rattle.plan_spec.specs.Vector.{Vector}
use Rattle.plan_spec.specs.Polygon.{Inside}
use Rattle.plan_grid.specs.declared.frame.Frame.{Frame}
use Rattle.plan_grid.specs.declared.spot.Spot.{Spot}
use Rattle.plan_grid.specs.Spot.{spots_seen, IsWithin}
use Rattle.plan_grid.specs.declared.bounds.TheConstants.{MOST_COORDINATE}
use Rattle.plan_convex.specs.Boxes.{Encloses}
use Rattle.plan_convex.specs.Convex.{IsPolygon}

-- the corners have coordinates of at most 2046
pub record AreWithin (box : Frame) : Type 0 where
  pub low : IsWithin MOST_COORDINATE box.low
  pub high : IsWithin MOST_COORDINATE box.high

-- one for each polygon, which encloses its vertices
pub record AreBoxes (sums : List (List Spot)) (boxes : List Frame) : Type 0 where
  pub polygons : All IsPolygon sums
  pub bounded : All AreWithin boxes
  pub same_length : length boxes ≡ length sums
  pub enclose : (k : ℕ) (v : List Spot) (f : Frame) → k < length sums → All (Encloses (get_or boxes k f)) (get_or sums k v)

-- the closed range of x of the box has that of z
abbrev pub HasX : Frame → Vector → Type 0
HasX box z = ((box.low.x *ℤ z.w) ≤ℤ z.x) × (z.x ≤ℤ (box.high.x *ℤ z.w))

abbrev pub HasY : Frame → Vector → Type 0
HasY box z = ((box.low.y *ℤ z.w) ≤ℤ z.y) × (z.y ≤ℤ (box.high.y *ℤ z.w))

-- numbers of boxes, all of those that have the x of z among them
pub record AreNear (boxes : List Frame) (z : Vector) (near : List ℕ) : Type 0 where
  pub within : All (λ i. i < length boxes) near
  pub all : (i : ℕ) (f : Frame) → i < length boxes → HasX (get_or boxes i f) z → Contains near i

-- strictly within the room
pub record IsWithinRoom (room : Frame) (z : Vector) : Type 0 where
  pub left : (room.low.x *ℤ z.w) <ℤ z.x
  pub right : z.x <ℤ (room.high.x *ℤ z.w)
  pub below : (room.low.y *ℤ z.w) <ℤ z.y
  pub above : z.y <ℤ (room.high.y *ℤ z.w)

-- the sum holds z, whose y the box has
abbrev pub IsHeldAt : List (List Spot) → List Frame → Vector → ℕ → Type 0
IsHeldAt sums boxes z i = (v : List Spot) (f : Frame) → HasY (get_or boxes i f) z × Inside (spots_seen (get_or sums i v)) z
