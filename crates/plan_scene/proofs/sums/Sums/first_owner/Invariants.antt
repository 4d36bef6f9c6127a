-- No sum so far holds the point.
use Rattle.std.proofs.Common.{ℕ, ◌<◌, List, get_or}
use Rattle.plan_spec.specs.Polygon.{Inside}
use Rattle.plan_grid.specs.declared.spot.Spot.{Spot}
use Rattle.plan_grid.specs.Spot.{spots_seen}
use Rattle.plan_scene.proofs.sums.Sums.first_owner.Given as goal

abbrev pub invariant-loop-i : goal.invariant-loop-i
invariant-loop-i l = (k : ℕ) → k < l.i → (d : List Spot) → ¬ (Inside (spots_seen (get_or l.self.list.items k d)) l.z)
