-- The edges so far are not right.
use Rattle.std.proofs.Common.{ℕ, ◌<◌}
use Rattle.plan_spec.specs.Polygon.{AreRight}
use Rattle.plan_grid.proofs.Edges.{edge_at}
use Rattle.plan_convex.proofs.convex.is_right_of_edge.Given as goal

abbrev pub invariant-loop-i : goal.invariant-loop-i
invariant-loop-i l = (k : ℕ) → k < l.i → ¬ (AreRight l.p l.q (edge_at l.spots k))
