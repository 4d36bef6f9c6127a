-- Of the spots behind, `found` is the number of the farthest in the triangle, if one is in it.
use Rattle.std.proofs.Common.{◌<◌, length, IfSome}
use Rattle.plan_grid.specs.Spot.{spot_seen}
use Rattle.plan_tri.proofs.Region.Search.{FarthestBehind}
use Rattle.plan_tri.proofs.search.farthest.Given as goal

abbrev pub invariant-loop-i : goal.invariant-loop-i
invariant-loop-i l = record {
  within : IfSome l.found (λ k. k < length l.spots);
  best : FarthestBehind (spot_seen l.v) (spot_seen l.w) (spot_seen l.u) l.spots l.i l.found;
}
