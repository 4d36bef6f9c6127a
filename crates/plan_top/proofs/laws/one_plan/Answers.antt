use Rattle.plan_top.proofs.OnePlan.{one_plan}
use Rattle.plan_top.proofs.laws.one_plan.Goals as goal

pub returns : goal.returns
returns c = one_plan
