-- A convex polygon holds no point that is strictly beyond a side of its box; and a test that failed.
use Rattle.std.proofs.Common.{◌≡◌, true, false, inl, inr, ◌≤◌, List, length, All, arith}
use Rattle.plan_exact.proofs.Laws.{linear}
use Rattle.plan_exact.proofs.Signs.{mul_one}
use Rattle.plan_spec.specs.Vector.{Vector}
use Rattle.plan_spec.specs.Polygon.{Inside, IsConvex}
use Rattle.plan_grid.specs.declared.frame.Frame.{Frame}
use Rattle.plan_grid.specs.declared.spot.Spot.{Spot}
use Rattle.plan_grid.specs.Frame.{frame_seen, IsPast}
use Rattle.plan_grid.specs.Spot.{spots_seen}
use Rattle.plan_convex.specs.Boxes.{Encloses}
use Rattle.plan_convex.proofs.InBox.{IsIn, inside_is_in}

pub untrue : ¬ (false ≡ true)
untrue e = cc

pub past : (polygon : List Spot) (box : Frame) (z : Vector) → IsConvex (spots_seen polygon) → 3 ≤ length polygon → All (Encloses box) polygon → IsPast (frame_seen box) z → ¬ (Inside (spots_seen polygon) z)
past polygon box z convex three boxed h inside = by h
  where
    i : IsIn box z
    i = inside_is_in polygon box z convex three boxed inside

    by : IsPast (frame_seen box) z → ⊥
    by (inl h) = omega (arith, linear, h, i.left, mul_one z.x)
    by (inr (inl h)) = omega (arith, linear, h, i.right, mul_one z.x)
    by (inr (inr (inl h))) = omega (arith, linear, h, i.below, mul_one z.y)
    by (inr (inr (inr h))) = omega (arith, linear, h, i.above, mul_one z.y)
