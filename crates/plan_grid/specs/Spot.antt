-- Spots: as points of the plane, as directions, and how large they are.
use Rattle.std.specs.Prelude.{ℕ, ℤ, ◌+ℤ◌, ◌-ℤ◌, ◌*ℤ◌, neg_ℤ, ◌≤◌, unsigned_abs, List, map}
use Rattle.std.specs.Int.{int_min, int_max}
use Rattle.plan_spec.specs.Vector.{Vector, spot}
use Rattle.plan_spec.specs.Segment.{Segment, segment}
use Rattle.plan_grid.specs.declared.spot.Spot.{Spot}

-- a spot as a point of the plane
abbrev pub spot_seen : Spot → Vector
spot_seen s = spot s.x s.y

-- each of them
abbrev pub spots_seen : List Spot → List Vector
spots_seen spots = map spot_seen spots

-- the segment from a to b
abbrev pub edge_seen : Spot → Spot → Segment
edge_seen a b = segment (spot_seen a) (spot_seen b)

-- both coordinates are at most k in absolute value
pub record IsWithin (k : ℕ) (s : Spot) : Type 0 where
  pub x : unsigned_abs s.x ≤ k
  pub y : unsigned_abs s.y ≤ k

-- the sum of p and q
abbrev pub plus : Spot → Spot → Spot
plus p q = record { x = p.x +ℤ q.x; y = p.y +ℤ q.y }

-- the way from p to q
abbrev pub way : Spot → Spot → Spot
way p q = record { x = q.x -ℤ p.x; y = q.y -ℤ p.y }

-- the spot on the other side of the origin
abbrev pub opposite : Spot → Spot
opposite p = record { x = neg_ℤ p.x; y = neg_ℤ p.y }

-- the cross product of two ways: positive where e points to the left of d
abbrev pub cross : Spot → Spot → ℤ
cross d e = d.x *ℤ e.y -ℤ d.y *ℤ e.x

-- the lower left corner of the box of p and q
abbrev pub least : Spot → Spot → Spot
least p q = record { x = int_min p.x q.x; y = int_min p.y q.y }

-- the upper right corner of the box of p and q
abbrev pub greatest : Spot → Spot → Spot
greatest p q = record { x = int_max p.x q.x; y = int_max p.y q.y }
