-- Boxes that grow.
use Rattle.std.proofs.Common.{arith, ◌≡◌, ℤ, pos, neg_ℤ, ◌≤◌, ◌≤ℤ◌, ◌+ℤ◌, List, [], ◌∷◌, All}
use Rattle.std.proofs.lemmas.Int.{ints, int_min_is, int_max_is}
use Rattle.plan_grid.specs.declared.frame.Frame.{Frame}
use Rattle.plan_grid.specs.declared.spot.Spot.{Spot}
use Rattle.plan_svg.specs.Page.{IsPageBox, with_spot}

-- a page's box stays one round a spot in range
pub with_spot_fits : (box : Frame) (s : Spot) → neg_ℤ (pos 3069) ≤ℤ s.x → s.x ≤ℤ pos 3069 → neg_ℤ (pos 3069) ≤ℤ s.y → s.y ≤ℤ pos 3069 → IsPageBox box → IsPageBox (with_spot box s)
with_spot_fits box s a b c d h = record {
  left = omega (arith, ints, int_min_is box.low.x s.x, a, h.left);
  right = omega (arith, ints, int_max_is box.high.x s.x, b, h.right);
  below = omega (arith, ints, int_min_is box.low.y s.y, c, h.below);
  above = omega (arith, ints, int_max_is box.high.y s.y, d, h.above);
  wide = omega (arith, ints, int_min_is box.low.x s.x, int_max_is box.high.x s.x, h.wide);
  tall = omega (arith, ints, int_min_is box.low.y s.y, int_max_is box.high.y s.y, h.tall);
}
