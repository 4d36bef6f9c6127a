-- Each fault says that the earlier ones are not there.
use Rattle.plan_check.proofs.Exclusion.{one_first_fault}
use Rattle.plan_check.proofs.laws.one_first_fault.Goals as goal

pub returns : goal.returns
returns c = one_first_fault
