-- The segments so far run clear.
use Rattle.std.proofs.Common.{ℕ, ◌<◌, slice_get, IfSome}
use Rattle.plan_spec.specs.Route.{legs}
use Rattle.plan_grid.specs.Frame.{frame_seen}
use Rattle.plan_convex.specs.Piece.{sums_seen}
use Rattle.plan_check.specs.Touching.{LegRunsClear}
use Rattle.plan_check.proofs.path.first_touching.Given as goal

abbrev pub invariant-loop-k : goal.invariant-loop-k
invariant-loop-k l = (j : ℕ) → j < l.k → IfSome (slice_get (legs l.path) j) (LegRunsClear (sums_seen l.sums) (frame_seen l.room))
