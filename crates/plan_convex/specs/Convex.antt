-- What a convex polygon of spots is, and the points that it holds.
use Rattle.std.specs.Prelude.{◌≤◌, List, length, All}
use Rattle.plan_spec.specs.Polygon.{IsConvex}
use Rattle.plan_grid.specs.declared.spot.Spot.{Spot}
use Rattle.plan_grid.specs.Spot.{spots_seen, IsWithin}
use Rattle.plan_grid.specs.declared.bounds.TheConstants.{MOST_COORDINATE}

-- three to six vertices, strictly convex and counterclockwise from the least, of coordinates of at most 2046
pub record IsPolygon (spots : List Spot) : Type 0 where
  pub at_least_three : 3 ≤ length spots
  pub at_most_six : length spots ≤ 6
  pub convex : IsConvex (spots_seen spots)
  pub bounded : All (IsWithin MOST_COORDINATE) spots
