-- A route between two parities crosses the chain.
use Rattle.plan_cross.proofs.ParityLaw.Route.{route_crosses}
use Rattle.plan_cross.proofs.laws.route.Goals as goal

pub returns : goal.returns
returns c = route_crosses
