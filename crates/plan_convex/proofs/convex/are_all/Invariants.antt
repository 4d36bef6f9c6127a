-- The spots so far are on this side.
use Rattle.std.proofs.Common.{ℕ, ◌<◌}
use Rattle.plan_spec.specs.Vector.{turn}
use Rattle.plan_grid.specs.Order.{IsSign}
use Rattle.plan_grid.specs.Spot.{spot_seen}
use Rattle.plan_grid.proofs.Spots.{corner}
use Rattle.plan_convex.proofs.convex.are_all.Given as goal

abbrev pub invariant-loop-v : goal.invariant-loop-v
invariant-loop-v l = (k : ℕ) → k < l.v-index → IsSign l.side (turn l.p l.q (spot_seen (corner l.spots k)))
