use Rattle.plan_grid.proofs.Signs.{is_less}
use Rattle.plan_grid.proofs.frame.is_below.Goals as goal

pub returns : goal.returns
returns c = rw c.is_lt.ensures (is_less _ _ _ c.y_order.ensures)
