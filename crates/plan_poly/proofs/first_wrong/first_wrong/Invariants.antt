-- No edge so far meets a later one wrongly.
use Rattle.std.proofs.Common.{ℕ, ◌<◌}
use Rattle.plan_grid.specs.Spot.{spots_seen}
use Rattle.plan_poly.specs.FirstWrong.{MeetsNone}
use Rattle.plan_poly.proofs.first_wrong.first_wrong.Given as goal

abbrev pub invariant-loop-i : goal.invariant-loop-i
invariant-loop-i l = (k : ℕ) → k < l.i → MeetsNone (spots_seen l.spots) k
