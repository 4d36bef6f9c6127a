-- A convex polygon holds only points that its box has: it is not beyond any side of the box.
use Rattle.std.proofs.Common.{pos, ◌≤◌, ◌*ℤ◌, ◌≤ℤ◌, List, length, All, arith}
use Rattle.std.proofs.lemmas.List.{length-map}
use Rattle.std.proofs.lemmas.List.Elements.{All-map}
use Rattle.plan_exact.specs.Vectors.{dot}
use Rattle.plan_exact.proofs.Laws.{linear}
use Rattle.plan_exact.proofs.Signs.{mul_one}
use Rattle.plan_spec.specs.Vector.{Vector}
use Rattle.plan_spec.specs.Polygon.{Inside, IsConvex}
use Rattle.plan_plane.proofs.Boundary.Blocks.{below, beyond_right, above, beyond_left, below_is, right_is, above_is, left_is}
use Rattle.plan_plane.proofs.Polygon.Fan.{nonneg_at}
use Rattle.plan_grid.specs.declared.frame.Frame.{Frame}
use Rattle.plan_grid.specs.declared.spot.Spot.{Spot}
use Rattle.plan_grid.specs.Spot.{spot_seen, spots_seen}
use Rattle.plan_convex.specs.Boxes.{Encloses}

-- z is in the box, times its weight
pub record IsIn (box : Frame) (z : Vector) : Type 0 where
  pub left : (box.low.x *ℤ z.w) ≤ℤ z.x
  pub right : z.x ≤ℤ (box.high.x *ℤ z.w)
  pub below : (box.low.y *ℤ z.w) ≤ℤ z.y
  pub above : z.y ≤ℤ (box.high.y *ℤ z.w)

pub inside_is_in : (polygon : List Spot) (box : Frame) (z : Vector) → IsConvex (spots_seen polygon) → 3 ≤ length polygon → All (Encloses box) polygon → Inside (spots_seen polygon) z → IsIn box z
inside_is_in polygon box z convex three boxed inside = record {
  left = omega (arith, linear, right_is box.low.x z, mul_one z.x, at (beyond_right box.low.x) (λ s e. omega (arith, linear, right_is box.low.x (spot_seen s), e.left)));
  right = omega (arith, linear, left_is box.high.x z, mul_one z.x, at (beyond_left box.high.x) (λ s e. omega (arith, linear, left_is box.high.x (spot_seen s), e.right)));
  below = omega (arith, linear, above_is box.low.y z, mul_one z.y, at (above box.low.y) (λ s e. omega (arith, linear, above_is box.low.y (spot_seen s), e.below)));
  above = omega (arith, linear, below_is box.high.y z, mul_one z.y, at (below box.high.y) (λ s e. omega (arith, linear, below_is box.high.y (spot_seen s), e.above)));
}
  where
    at : (l : Vector) → ((s : Spot) → Encloses box s → pos 0 ≤ℤ dot l (spot_seen s)) → pos 0 ≤ℤ dot l z
    at l f = nonneg_at (spots_seen polygon) z convex (omega (arith, length-map polygon spot_seen, three)) inside l (All-map (λ v. pos 0 ≤ℤ dot l v) spot_seen polygon (λ k d within. f _ (boxed k d within)))
