use Rattle.std.proofs.Common.{length, ◌-◌}
use Rattle.plan_map.specs.Row.{in_row}
use Rattle.plan_map.specs.Search.{IsSearch}
use Rattle.plan_map.proofs.walk.distances.Given as goal

abbrev pub invariant-loop-head : goal.invariant-loop-head
invariant-loop-head l = IsSearch (in_row l.rows) (length l.rows) l.goal l.seen.items l.head l.distances.items

abbrev pub decreases-loop-head : goal.decreases-loop-head
decreases-loop-head l = length l.rows - l.head
