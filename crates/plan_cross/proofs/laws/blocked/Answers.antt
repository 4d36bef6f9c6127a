-- What a held chain separates, no clear polyline joins.
use Rattle.plan_cross.proofs.ParityLaw.Route.{no_clear_polyline}
use Rattle.plan_cross.proofs.laws.blocked.Goals as goal

pub returns : goal.returns
returns c = no_clear_polyline
