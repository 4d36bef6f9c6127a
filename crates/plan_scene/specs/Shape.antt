-- A polygon with its triangles.
use Rattle.std.specs.Prelude.{◌≡◌, List, All}
use Rattle.plan_spec.specs.Triangulation as spec
use Rattle.plan_grid.specs.declared.spot.Spot.{Spot}
use Rattle.plan_grid.specs.Spot.{spots_seen}
use Rattle.plan_tri.specs.declared.triangle.Triangle.{Triangle}
use Rattle.plan_tri.specs.Triangle.{triangles_seen, IsProper}

-- the triangles of a polygon of these vertices
abbrev pub triangles_of : List Spot → List spec.Triangle
triangles_of spots = spec.triangles (spots_seen spots)

-- ts are its triangles
pub record IsCut (spots : List Spot) (ts : List Triangle) : Type 0 where
  pub value : triangles_seen ts ≡ triangles_of spots
  pub proper : All IsProper ts
