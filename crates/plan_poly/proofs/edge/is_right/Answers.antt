-- An orientation says Less exactly where the cross product is negative.
use Rattle.plan_grid.proofs.Signs.{less_is_negative}
use Rattle.plan_poly.proofs.edge.is_right.Goals as goal

pub returns : goal.returns
returns c = rw c.is_lt.ensures (less_is_negative _ _ c.orientation.ensures)
