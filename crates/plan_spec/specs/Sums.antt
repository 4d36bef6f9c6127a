-- The sums of a scene: for each triangle of an obstacle and each triangle of the robot the convex polygon of the placements at which
-- the two have a common point (de Berg, Cheong, van Kreveld, Overmars, Computational Geometry, 3rd edition, 13.3).
use Rattle.std.specs.Prelude.{◌↔◌, ℕ, List, map}
use Rattle.std.specs.List.{AllZip, flat_map}
use Rattle.plan_spec.specs.Vector.{Vector, IsPoint, minus}
use Rattle.plan_spec.specs.Polygon.{Inside, IsConvex}
use Rattle.plan_spec.specs.Triangulation.{Triangle, corners, triangles}
use Rattle.plan_spec.specs.Placement.{Scene}

-- a triangle of an obstacle, with the obstacle's id, and a triangle of the robot
pub record Part : Type 0 where
  pub owner : ℕ
  pub piece : Triangle
  pub robot : Triangle

abbrev pub part : ℕ → Triangle → Triangle → Part
part id t r = record { owner = id; piece = t; robot = r }

-- one obstacle's parts: by its triangles, then by the robot's
abbrev pub parts_of : List Triangle → ℕ → List Triangle → List Part
parts_of rs id ts = flat_map (λ t. map (part id t) rs) ts

-- all parts, by the obstacles first
abbrev pub parts : Scene → List Part
parts s = flat_map (λ o. parts_of (triangles s.robot) o.id (triangles o.shape)) s.obstacles

-- p is a point of the one polygon less a point of the other
abbrev pub InDifference : List Vector → List Vector → Vector → Type 0
InDifference obstacle robot p = (z : Vector) × IsPoint z × Inside obstacle z × Inside robot (minus z p)

-- the polygon holds the placements at which the two triangles have a common point
abbrev pub IsMeeting : Part → List Vector → Type 0
IsMeeting t vs = (p : Vector) → IsPoint p → Inside vs p ↔ InDifference (corners t.piece) (corners t.robot) p

-- the convex polygon, from its least vertex on, that does
pub record IsSum (t : Part) (vs : List Vector) : Type 0 where
  pub convex : IsConvex vs
  pub meaning : IsMeeting t vs

-- those of a scene, part by part
abbrev pub AreSums : Scene → List (List Vector) → Type 0
AreSums s sums = AllZip IsSum (parts s) sums
