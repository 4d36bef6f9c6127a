-- The order of points by their distance from the line through w and u, by a test.
use Rattle.std.proofs.Common.{◌*ℤ◌}
use Rattle.plan_exact.proofs.Fractions.{le_trans}
use Rattle.plan_exact.proofs.Signs.{le_of_lt}
use Rattle.plan_exact.proofs.Tests.{lt_false, lt_from_true, le_from_false}
use Rattle.plan_spec.specs.Triangulation.{farther}
use Rattle.plan_spec.specs.Vector.{turn, Vector}
use Rattle.plan_poly.proofs.FromLeast.Best.{IsOrder}

pub by_distance : (w u : Vector) → IsOrder (farther w u)
by_distance w u = record {
  one_way = λ x y hx hy e. lt_false (le_of_lt (lt_from_true (turn w u y *ℤ x.w) (turn w u x *ℤ y.w) e));
  through = λ x y z hx hy hz e f. lt_false (le_trans (turn w u y) y.w (turn w u x) x.w (turn w u z) z.w hy hx hz (le_from_false (turn w u x *ℤ y.w) (turn w u y *ℤ x.w) e) (le_from_false (turn w u z *ℤ x.w) (turn w u x *ℤ z.w) f));
}
