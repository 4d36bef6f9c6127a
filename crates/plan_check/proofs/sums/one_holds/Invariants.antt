-- No sum so far.
use Rattle.std.proofs.Common.{ℕ, [], ◌<◌, get_or}
use Rattle.plan_check.specs.Boxes.{HoldsBoth}
use Rattle.plan_grid.specs.Spot.{spots_seen}
use Rattle.plan_check.proofs.sums.one_holds.Given as goal

abbrev pub invariant-loop-i : goal.invariant-loop-i
invariant-loop-i l = (k : ℕ) → k < l.i → ¬ (HoldsBoth l.p l.q (spots_seen (get_or l.sums k [])))
