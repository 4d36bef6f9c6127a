-- z is on or left of the edges so far.
use Rattle.std.proofs.Common.{ℕ, ◌<◌}
use Rattle.plan_spec.specs.Polygon.{OnOrLeft}
use Rattle.plan_grid.proofs.Edges.{edge_at}
use Rattle.plan_convex.proofs.convex.Convex.holds.Given as goal

abbrev pub invariant-loop-i : goal.invariant-loop-i
invariant-loop-i l = (k : ℕ) → k < l.i → OnOrLeft l.z (edge_at l.spots k)
