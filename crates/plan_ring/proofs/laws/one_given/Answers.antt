-- The law that the answer that is given is one by position.
use Rattle.plan_ring.proofs.Alike.AnswerGiven.{one_given}
use Rattle.plan_ring.proofs.laws.one_given.Goals as goal

pub returns : goal.returns
returns c = one_given
