use Rattle.plan_top.proofs.OneDemo.{one_demo}
use Rattle.plan_top.proofs.laws.one_demo.Goals as goal

pub returns : goal.returns
returns c = one_demo
