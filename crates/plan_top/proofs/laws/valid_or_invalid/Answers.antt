use Rattle.plan_top.proofs.Exclusion.{valid_or_invalid}
use Rattle.plan_top.proofs.laws.valid_or_invalid.Goals as goal

pub returns : goal.returns
returns c = valid_or_invalid
