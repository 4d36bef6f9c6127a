-- What `compare` tells is the order, since the weights are positive.
use Rattle.plan_grid.specs.PointOrder.{point_cmp_from_order}
use Rattle.plan_grid.proofs.point.PointOrd.cmp.Goals as goal

pub returns : goal.returns
returns c = rw (← c.self.view_is, ← c.other.view_is) (point_cmp_from_order _ _ c.self.invariant.weight c.other.invariant.weight _ (rw (← c.self.view_is, ← c.other.view_is) at c.compare.ensures.order))
