-- Segments, the points on them, and the points that two have in common.
use Rattle.std.specs.Prelude.{◌≡◌, pos, ◌⊎◌, List, All}
use Rattle.plan_spec.specs.Vector.{Vector, IsPoint, LeX, LeY, turn}

-- a segment by its two ends, in the order in which they were given
pub record Segment : Type 0 where
  pub a : Vector
  pub b : Vector

-- the segment from p to q
abbrev pub segment : Vector → Vector → Segment
segment p q = record { a = p; b = q }

-- both ends are points
abbrev pub HasPoints : Segment → Type 0
HasPoints s = IsPoint s.a × IsPoint s.b

-- z is in one line with the ends, and in their box; where the ends are one point, that point alone
pub record On (s : Segment) (z : Vector) : Type 0 where
  pub in_line : turn s.a s.b z ≡ pos 0
  pub within_x : (LeX s.a z × LeX z s.b) ⊎ (LeX s.b z × LeX z s.a)
  pub within_y : (LeY s.a z × LeY z s.b) ⊎ (LeY s.b z × LeY z s.a)

-- P holds of some rational point of the segment
abbrev pub AnyOn : (Vector → Type 0) → Segment → Type 0
AnyOn P s = (z : Vector) × IsPoint z × On s z × P z

-- P holds of every rational point of the segment
abbrev pub AllOn : (Vector → Type 0) → Segment → Type 0
AllOn P s = (z : Vector) → IsPoint z → On s z → P z

-- some rational point is on both segments
abbrev pub Common : Segment → Segment → Type 0
Common s t = AnyOn (On t) s

-- no segment of the list has a point in common with the path
abbrev pub Misses : Segment → List Segment → Type 0
Misses path chain = All (λ s. ¬ (Common path s)) chain
