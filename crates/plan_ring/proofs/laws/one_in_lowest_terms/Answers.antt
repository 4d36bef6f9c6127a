-- The law that in lowest terms the answer that is given is one.
use Rattle.plan_ring.proofs.Alike.AnswerGiven.{one_in_lowest_terms}
use Rattle.plan_ring.proofs.laws.one_in_lowest_terms.Goals as goal

pub returns : goal.returns
returns c = one_in_lowest_terms
