-- The chain would block the path.
use Rattle.plan_check.proofs.Exclusion.{not_both}
use Rattle.plan_check.proofs.laws.not_both.Goals as goal

pub returns : goal.returns
returns c = not_both
