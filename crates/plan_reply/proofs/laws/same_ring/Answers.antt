-- The law of one ring for all queries of a part.
use Rattle.plan_reply.proofs.Parts.{one_ring}
use Rattle.plan_reply.proofs.laws.same_ring.Goals as goal

pub returns : goal.returns
returns c = λ scene is_scene. one_ring scene is_scene
