-- Triangles of spots.
use Rattle.std.specs.Prelude.{List, [], ◌∷◌, map, Any}
use Rattle.plan_spec.specs.Vector.{Vector}
use Rattle.plan_spec.specs.Polygon.{Inside, IsFromLeast}
use Rattle.plan_spec.specs.Triangulation as spec
use Rattle.plan_grid.specs.declared.spot.Spot.{Spot}
use Rattle.plan_grid.specs.Spot.{spot_seen, spots_seen}
use Rattle.plan_grid.specs.Triangle.{IsCounterclockwise}
use Rattle.plan_tri.specs.declared.triangle.Triangle.{Triangle}

abbrev pub triangle_seen : Triangle → spec.Triangle
triangle_seen t = record { a = spot_seen t.a; b = spot_seen t.b; c = spot_seen t.c }

abbrev pub triangles_seen : List Triangle → List spec.Triangle
triangles_seen ts = map triangle_seen ts

abbrev pub corners : Triangle → List Spot
corners t = t.a ∷ t.b ∷ t.c ∷ []

-- z is in some triangle of the list, or on its boundary
abbrev pub InSome : List spec.Triangle → Vector → Type 0
InSome ts z = Any (λ t. Inside (spec.corners t) z) ts

-- counterclockwise, so not flat, from the least corner, with coordinates of at most 1023 in absolute value
pub record IsProper (t : Triangle) : Type 0 where
  pub counterclockwise : IsCounterclockwise (corners t)
  pub least : IsFromLeast (spots_seen (corners t))
