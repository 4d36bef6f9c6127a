-- Every route crosses it.
use Rattle.plan_check.proofs.Exclusion.{accepted_blocks}
use Rattle.plan_check.proofs.laws.accepted_blocks.Goals as goal

pub returns : goal.returns
returns c = accepted_blocks
