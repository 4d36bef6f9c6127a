use Rattle.plan_top.proofs.Exclusion.{one_first_fault}
use Rattle.plan_top.proofs.laws.one_first_fault.Goals as goal

pub returns : goal.returns
returns c = one_first_fault
