-- The part is what the edges so far leave.
use Rattle.plan_grid.specs.Spot.{spot_seen}
use Rattle.plan_convex.proofs.Covered.{Leaves}
use Rattle.plan_convex.proofs.convex.Convex.covered.Given as goal

abbrev pub invariant-loop-i : goal.invariant-loop-i
invariant-loop-i l = Leaves (spot_seen l.a) (spot_seen l.b) l.spots l.i l.part
