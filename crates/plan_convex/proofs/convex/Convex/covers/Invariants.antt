-- The spot is strictly left of the edges so far.
use Rattle.std.proofs.Common.{ℕ, ◌<◌}
use Rattle.plan_spec.specs.Boundary.{IsLeft}
use Rattle.plan_grid.specs.Spot.{spot_seen}
use Rattle.plan_grid.proofs.Edges.{edge_at}
use Rattle.plan_convex.proofs.convex.Convex.covers.Given as goal

abbrev pub invariant-loop-i : goal.invariant-loop-i
invariant-loop-i l = (k : ℕ) → k < l.i → IsLeft (spot_seen l.z) (edge_at l.spots k)
