-- The shapes of a floor: its ground, where its robot may not be, what stands on it, and its frame.
use Rattle.std.specs.Prelude.{◌≡◌, ℕ, ℤ, pos, ◌+ℤ◌, ◌*ℤ◌, int_le, ◌&&◌, nat_eq, Bool, List, [], ◌∷◌, ◌++◌, map, decimal, Option, Some, None, if◌then◌else◌}
use Rattle.plan_spec.specs.Vector.{Vector}
use Rattle.plan_spec.specs.Triangulation.{Triangle, triangles}
use Rattle.plan_grid.specs.declared.frame.Frame.{Frame}
use Rattle.plan_grid.specs.declared.spot.Spot.{Spot}
use Rattle.plan_grid.specs.Spot.{spots_seen}
use Rattle.plan_poly.specs.Polygon.{IsRead}
use Rattle.plan_scene.specs.Scene.{Obstacle}
use Rattle.plan_svg.specs.Shapes.{Shape, polygon, label}
use Rattle.plan_svg.specs.declared.class.Class.{Class}
use Rattle.plan_svg.specs.declared.class.Class.TheVariants as class

-- ---- rectangles
abbrev pub at : ℤ → ℤ → Spot
at x y = record { x = x; y = y }

-- the corners of a frame, counterclockwise
abbrev pub corners : Frame → List Spot
corners f = f.low ∷ at f.high.x f.low.y ∷ f.high ∷ at f.low.x f.high.y ∷ []

abbrev pub rectangle : Class → Frame → Shape
rectangle c f = polygon c (spots_seen (corners f))

-- its low corner is not right of the high one, and not above it
abbrev pub has_points : Frame → Bool
has_points f = int_le f.low.x f.high.x && int_le f.low.y f.high.y

-- ---- places of ids
-- a point strictly inside a triangle, near the middle of the side that faces its first corner: there the next triangle may go on
abbrev pub inner : Triangle → Vector
inner t = record { x = t.a.x +ℤ pos 2 *ℤ (t.b.x +ℤ t.c.x); y = t.a.y +ℤ pos 2 *ℤ (t.b.y +ℤ t.c.y); w = pos 5 }

abbrev pub IsInner : List Triangle → Vector → Type 0
IsInner [] p = ⊥
IsInner (t ∷ ts) p = p ≡ inner t

-- p is such a point of the first triangle of the polygon
pub record IsNamePlace (o : Obstacle) (p : Vector) : Type 0 where
  pub kept : List Spot
  pub is_read : IsRead o.spots kept
  pub is_inner : IsInner (triangles (spots_seen kept)) p

-- ---- shapes
-- of two classes that of what has the number, by whether it is what is touched; the number of the frame is 0
abbrev pub either : Option ℕ → ℕ → Class → Class → Class
either None number touching clear = clear
either (Some who) number touching clear = if nat_eq who number then touching else clear

-- white where the robot may be, as far as the room goes, and grey where it may not
abbrev pub room_shapes : Frame → List Shape
room_shapes room = if has_points room then rectangle class.Room room ∷ [] else []

abbrev pub ground_shapes : Frame → Frame → List (List Spot) → List Shape
ground_shapes frame room sums =
    rectangle class.Floor frame ∷ (room_shapes room ++ map (λ sum. polygon class.Sum (spots_seen sum)) sums)

abbrev pub obstacle_shape : Option ℕ → Obstacle → Shape
obstacle_shape touched o = polygon (either touched o.id class.TouchedObstacle class.Obstacle) (spots_seen o.spots)

abbrev pub name_shape : ℕ → Vector → Shape
name_shape id at = label class.Id at (decimal id)

abbrev pub name_shapes : List Obstacle → List Vector → List Shape
name_shapes (o ∷ os) (p ∷ ps) = name_shape o.id p ∷ name_shapes os ps
name_shapes _ _ = []

abbrev pub frame_shape : Option ℕ → Frame → Shape
frame_shape touched frame = rectangle (either touched 0 class.TouchedFrame class.Frame) frame
