-- The law that what is given by one map is given by each.
use Rattle.plan_ring.proofs.Alike.AnswerGiven.{given_by_each}
use Rattle.plan_ring.proofs.laws.given_by_each_map.Goals as goal

pub returns : goal.returns
returns c = given_by_each
