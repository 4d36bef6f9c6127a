-- One segment changes parity by its counted ends.
use Rattle.plan_cross.proofs.ParityLaw.Step.{parity_step}
use Rattle.plan_cross.proofs.laws.one_segment.Goals as goal

pub returns : goal.returns
returns c = parity_step
