-- The triangle from its least corner on is still counterclockwise.
use Rattle.std.proofs.Common.{◌≡◌, refl, subst, List, [], ◌∷◌}
use Rattle.plan_spec.specs.Polygon.{IsFromLeast}
use Rattle.plan_grid.specs.declared.spot.Spot.{Spot}
use Rattle.plan_grid.specs.Spot.{spots_seen}
use Rattle.plan_grid.specs.Triangle.{IsCounterclockwise, IsRotation}
use Rattle.plan_grid.proofs.Spots.{corner}
use Rattle.plan_grid.proofs.Triangles.{three_corners, rotated_left}
use Rattle.plan_convex.proofs.walk.Walk.from_least.Goals as goal

-- what is known of a rotation, by the corners that the code reads
module _ (s r : List Spot) (h : IsCounterclockwise s) (is : IsRotation s r) where
  three : r ≡ corner r 0 ∷ corner r 1 ∷ corner r 2 ∷ []
  three = let t = rotated_left s r h is in three_corners r t.triangle.three

  by_corners : (P : List Spot → Type 0) → P r → P (corner r 0 ∷ corner r 1 ∷ corner r 2 ∷ [])
  by_corners P p = subst P three p

pub returns-clause-start : goal.returns-clause-start
returns-clause-start c =
    let r = c.from_least.result in
    let is = c.from_least.ensures.rotation in
    record {
      triangle = by_corners c.args.triangle r c.requires is IsCounterclockwise (rotated_left c.args.triangle r c.requires is);
      least = by_corners c.args.triangle r c.requires is (λ s. IsFromLeast (spots_seen s)) c.from_least.ensures.least;
      edges = refl;
    }

pub returns-clause-rotation : goal.returns-clause-rotation
returns-clause-rotation c = let is = c.from_least.ensures.rotation in by_corners c.args.triangle c.from_least.result c.requires is (IsRotation c.args.triangle) is
