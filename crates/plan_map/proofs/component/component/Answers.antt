-- What a walk joins to the region is what has a distance to it.
use Rattle.plan_map.proofs.Graph.Distances.{of_none}
use Rattle.plan_map.proofs.Graph.Joined.{component_of}
use Rattle.plan_map.proofs.component.component.Goals as goal

pub returns : goal.returns
returns c = component_of c.in_ok-distances.distances.items (of_none c.in_ok-distances.ensures.value) c.requires.rows.both_ways c.in_ok-found.found.items (rw (← c.deref.ensures.value) c.in_ok-found.ensures)
