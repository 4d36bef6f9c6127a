-- The point is below the line where it is right of it, from left to right.
use Rattle.plan_grid.proofs.Signs.{less_is_negative}
use Rattle.plan_poly.proofs.edge.is_above.Goals as goal

pub returns : goal.returns
returns c = rw c.is_lt.ensures (less_is_negative _ _ c.orientation_at.ensures)
