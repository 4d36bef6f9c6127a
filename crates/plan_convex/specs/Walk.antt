-- Walks round triangles, and the points that two triangles have as sums.
use Rattle.std.specs.Prelude.{◌≡◌, pos, ◌+◌, ◌<ℤ◌, List, [], ◌∷◌}
use Rattle.plan_spec.specs.Vector.{Vector, IsPoint, minus}
use Rattle.plan_spec.specs.Polygon.{Inside, IsFromLeast}
use Rattle.plan_grid.specs.declared.spot.Spot.{Spot}
use Rattle.plan_grid.specs.Spot.{spots_seen, way, cross}
use Rattle.plan_grid.specs.Triangle.{IsCounterclockwise}
use Rattle.plan_convex.specs.declared.walk.Walk.{Walk}

abbrev pub corners : Walk → List Spot
corners w = w.at ∷ w.next ∷ w.previous ∷ []

-- the direction of the edge that comes next
abbrev pub edge : Walk → Spot
edge w = way w.at w.next

-- p is the sum of a point of one triangle and a point of another
abbrev pub InSum : List Vector → List Vector → Vector → Type 0
InSum first second p = (z : Vector) × IsPoint z × Inside first z × Inside second (minus p z)

-- at the least corner of a triangle, with all three edges ahead
pub record IsStart (w : Walk) : Type 0 where
  pub triangle : IsCounterclockwise (corners w)
  pub least : IsFromLeast (spots_seen (corners w))
  pub edges : w.edges_left ≡ 3

-- v goes on from w along one edge
pub record IsOnward (w v : Walk) : Type 0 where
  pub at : v.at ≡ w.next
  pub next : v.next ≡ w.previous
  pub previous : v.previous ≡ w.at
  pub edges : w.edges_left ≡ v.edges_left + 1

-- of the two walks the one goes on whose edge turns less to the left, and both where their edges have one direction
pub data IsStep (a b a' b' : Walk) : Type 0 where
  first : pos 0 <ℤ cross (edge a) (edge b) → IsOnward a a' → b' ≡ b → IsStep a b a' b'
  second : cross (edge a) (edge b) <ℤ pos 0 → a' ≡ a → IsOnward b b' → IsStep a b a' b'
  both : cross (edge a) (edge b) ≡ pos 0 → IsOnward a a' → IsOnward b b' → IsStep a b a' b'
