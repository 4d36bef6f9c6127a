use Rattle.plan_grid.proofs.Signs.{is_greater}
use Rattle.plan_grid.proofs.frame.is_right.Goals as goal

pub returns : goal.returns
returns c = rw c.is_gt.ensures (is_greater _ _ _ c.x_order.ensures)
