-- The law that one walk at most is the first of the shortest.
use Rattle.plan_spec.specs.Neighbours.{AreNeighbours}
use Rattle.plan_map.proofs.Graph.FirstWalk.{one_walk}
use Rattle.plan_map.proofs.laws.one_first_walk.Goals as goal

pub returns : goal.returns
returns c = λ σ found m n walk other f g. one_walk (AreNeighbours σ found) m n walk other f g
