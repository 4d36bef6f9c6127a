-- The law that a scene with a map is within the limit or beyond it.
use Rattle.plan_ring.proofs.Alike.AnswerGiven.{mapped_or_too_large}
use Rattle.plan_ring.proofs.laws.mapped_or_too_large.Goals as goal

pub returns : goal.returns
returns c = mapped_or_too_large
