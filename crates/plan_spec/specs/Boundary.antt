-- The edges of sums and the sides of a room, and what no sum covers. Sums and room are closed where the robot touches: it is clear
-- strictly within the room and outside every closed sum.
use Rattle.std.specs.Prelude.{pos, ◌<ℤ◌, List, [], ◌∷◌, ◌++◌, All}
use Rattle.std.specs.List.{flat_map}
use Rattle.plan_spec.specs.Vector.{Vector, LeX, LtX, LeY, LtY, spot, turn}
use Rattle.plan_spec.specs.Segment.{Segment, segment}
use Rattle.plan_spec.specs.Polygon.{Inside, edges}
use Rattle.plan_spec.specs.Frame.{Frame, OnOrBeyond}

-- z is strictly left of the line from s.a to s.b
abbrev pub IsLeft : Vector → Segment → Type 0
IsLeft z s = pos 0 <ℤ turn s.a s.b z

-- z is strictly left of every edge: the open interior of a counterclockwise convex polygon
abbrev pub StrictlyInside : List Vector → Vector → Type 0
StrictlyInside vs z = All (IsLeft z) (edges vs)

-- in the closed room; a room without width or without height holds nothing
pub record InRoom (room : Frame) (z : Vector) : Type 0 where
  pub wide : LtX room.low room.high
  pub tall : LtY room.low room.high
  pub left : LeX room.low z
  pub right : LeX z room.high
  pub below : LeY room.low z
  pub above : LeY z room.high

-- in the closed room, and in the open interior of no sum
pub record IsUncovered (sums : List (List Vector)) (room : Frame) (z : Vector) : Type 0 where
  pub in_room : InRoom room z
  pub in_none : All (λ vs. ¬ (StrictlyInside vs z)) sums

-- strictly in the room, and in no closed sum
pub record IsClearOf (sums : List (List Vector)) (room : Frame) (z : Vector) : Type 0 where
  pub in_room : ¬ (OnOrBeyond room z)
  pub in_none : All (λ vs. ¬ (Inside vs z)) sums

-- the sides of a room whose corners are spots: bottom, right, top and left, each from its lesser end
abbrev pub bottom : Frame → Segment
bottom room = segment (spot room.low.x room.low.y) (spot room.high.x room.low.y)

abbrev pub right : Frame → Segment
right room = segment (spot room.high.x room.low.y) (spot room.high.x room.high.y)

abbrev pub top : Frame → Segment
top room = segment (spot room.low.x room.high.y) (spot room.high.x room.high.y)

abbrev pub left : Frame → Segment
left room = segment (spot room.low.x room.low.y) (spot room.low.x room.high.y)

abbrev pub sides : Frame → List Segment
sides room = bottom room ∷ right room ∷ top room ∷ left room ∷ []

-- the edges of all sums, each sum's from its first vertex on, then the sides of the room
abbrev pub boundary : List (List Vector) → Frame → List Segment
boundary sums room = flat_map edges sums ++ sides room
