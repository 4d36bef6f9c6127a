-- The spots so far are in range.
use Rattle.std.proofs.Common.{ℕ, ◌<◌, get_or}
use Rattle.plan_grid.specs.declared.bounds.TheConstants.{MOST_CORNER}
use Rattle.plan_grid.specs.declared.spot.Spot.{Spot}
use Rattle.plan_grid.specs.Spot.{IsWithin}
use Rattle.plan_figures.proofs.scene.check_range.Given as goal

abbrev pub invariant-loop-i : goal.invariant-loop-i
invariant-loop-i g l = (k : ℕ) (d : Spot) → k < l.i → IsWithin MOST_CORNER (get_or l.spots k d)
