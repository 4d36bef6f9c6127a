-- The cell above the span below the spot holds it.
use Rattle.std.proofs.Common.{arith}
use Rattle.plan_grid.specs.Spot.{spot_seen}
use Rattle.plan_slab.proofs.Counts.{line_count}
use Rattle.plan_map.proofs.Location.ByNumber.{spot_point}
use Rattle.plan_map.proofs.Location.Lots.{no_cell, cell_holds}
use Rattle.plan_map.proofs.locate.cell_at.Goals as goal

pub returns-in_err-at-clause-holds : goal.returns-in_err-at-clause-holds
returns-in_err-at-clause-holds c = λ placed order inside.
    rw c.from_residual.ensures
    (no_cell placed (spot_seen c.args.spot) (spot_point c.args.spot) c.args.slab (omega (arith, c.requires, line_count c.args.slabs.now)) inside (c.in_err-at.ensures.below placed order inside))

pub returns-clause-holds : goal.returns-clause-holds
returns-clause-holds c = λ placed order inside.
    cell_holds placed (spot_seen c.args.spot) (spot_point c.args.spot) c.args.slab (omega (arith, c.requires, line_count c.args.slabs.now)) inside order c.in_ok-at.at (c.in_ok-at.ensures.below placed order inside)
