use Rattle.plan_poly.proofs.Spots.{edge_got}
use Rattle.plan_poly.proofs.edge.Edge.of.Goals as goal

pub returns : goal.returns
returns c = edge_got c.args.spots.now c.args.i c.requires
