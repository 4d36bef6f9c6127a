-- The law that sums, a room and pieces make a map.
use Rattle.plan_ring.proofs.Alike.AnswerGiven.{maps_exist}
use Rattle.plan_ring.proofs.laws.maps_exist.Goals as goal

pub returns : goal.returns
returns c = maps_exist
