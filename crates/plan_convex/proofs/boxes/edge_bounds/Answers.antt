-- The box of one spot, made larger for another, encloses it.
use Rattle.plan_convex.proofs.Apart.{now_enclosed}
use Rattle.plan_convex.proofs.boxes.edge_bounds.Goals as goal

pub returns-clause-second : goal.returns-clause-second
returns-clause-second c = rw (c.least.ensures, c.greatest.ensures) (now_enclosed c.args.a c.args.a c.args.b)
