use Rattle.std.proofs.Common.{length, ◌-◌}
use Rattle.plan_map.specs.Row.{in_row}
use Rattle.plan_map.proofs.Graph.Floods.{IsPoured}
use Rattle.plan_map.proofs.labels.flood.Given as goal

abbrev pub invariant-loop-head : goal.invariant-loop-head
invariant-loop-head l = IsPoured (in_row l.rows) (length l.rows) l.region l.seen.items l.head l.labels.items

abbrev pub decreases-loop-head : goal.decreases-loop-head
decreases-loop-head l = length l.rows - l.head
