-- No sum so far.
use Rattle.std.proofs.Common.{ℕ, [], ◌<◌, get_or}
use Rattle.plan_spec.specs.Segment.{AnyOn, segment}
use Rattle.plan_spec.specs.Polygon.{Inside}
use Rattle.plan_grid.specs.Spot.{spots_seen}
use Rattle.plan_check.proofs.sums.some_meets.Given as goal

abbrev pub invariant-loop-i : goal.invariant-loop-i
invariant-loop-i l = (k : ℕ) → k < l.i → ¬ (AnyOn (Inside (spots_seen (get_or l.sums k []))) (segment l.p l.q))
