-- On the left and on the right.
use Rattle.std.proofs.Common.{map}
use Rattle.plan_slab.specs.Seen.{lot_seen}
use Rattle.plan_slab.proofs.NextTo.{wall_row}
use Rattle.plan_slab.proofs.neighbours.row_of_wall.Goals as goal

pub returns : goal.returns
returns c = λ σ h. wall_row σ (map lot_seen c.args.lots.now) c.args.line c.args.at (record { left = c.cell_on_left.result; right = c.cell_on_right.result }) (c.cell_on_left.ensures σ h) (c.cell_on_right.ensures σ h)
