-- The law of one kind of answer.
use Rattle.plan_ring.proofs.OneKind.{one_kind}
use Rattle.plan_ring.proofs.laws.one_kind_of_answer.Goals as goal

pub returns : goal.returns
returns c = one_kind
