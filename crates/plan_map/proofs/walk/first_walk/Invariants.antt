-- What is taken so far, and whatever goes on by least steps from here, goes down from the start by least steps.
use Rattle.std.proofs.Common.{◌<◌, length}
use Rattle.plan_map.specs.Row.{in_row}
use Rattle.plan_map.specs.Search.{at}
use Rattle.plan_map.proofs.Graph.Stepping.{IsOnWay}
use Rattle.plan_map.proofs.walk.first_walk.Given as goal

abbrev pub invariant-loop-left : goal.invariant-loop-left
invariant-loop-left l = record {
  way : IsOnWay (in_row l.rows) (at l.distances) l.start l.here l.left l.taken.items;
  inside : l.here < length l.rows;
}

abbrev pub decreases-loop-left : goal.decreases-loop-left
decreases-loop-left l = l.left
