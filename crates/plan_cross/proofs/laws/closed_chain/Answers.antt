-- A closed chain that misses the way keeps parity.
use Rattle.plan_cross.proofs.ParityLaw.Closed.{parity_constant}
use Rattle.plan_cross.proofs.laws.closed_chain.Goals as goal

pub returns : goal.returns
returns c = parity_constant
