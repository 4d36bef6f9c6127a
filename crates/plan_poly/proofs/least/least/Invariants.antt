-- Of the spots behind, `least` is the number of the best.
use Rattle.std.proofs.Common.{◌<◌, length}
use Rattle.plan_spec.specs.Triangulation.{comes_before, every}
use Rattle.plan_grid.specs.Spot.{spots_seen}
use Rattle.plan_poly.proofs.FromLeast.Search.{Behind}
use Rattle.plan_poly.proofs.least.least.Given as goal

abbrev pub invariant-loop-i : goal.invariant-loop-i
invariant-loop-i l = record {
  within : l.least < length l.spots;
  best : Behind every comes_before (spots_seen l.spots) l.i l.least;
}
