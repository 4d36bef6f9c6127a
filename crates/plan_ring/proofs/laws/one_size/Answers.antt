-- The law that all maps of a scene have one size.
use Rattle.plan_ring.proofs.Alike.AnswerGiven.{one_size}
use Rattle.plan_ring.proofs.laws.one_size.Goals as goal

pub returns : goal.returns
returns c = one_size
