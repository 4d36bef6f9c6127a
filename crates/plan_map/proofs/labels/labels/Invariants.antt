use Rattle.std.proofs.Common.{length}
use Rattle.plan_map.specs.Labels.{IsFlood}
use Rattle.plan_map.specs.Row.{in_row}
use Rattle.plan_map.proofs.labels.labels.Given as goal

abbrev pub invariant-loop-region : goal.invariant-loop-region
invariant-loop-region l = IsFlood (in_row l.rows) (length l.rows) l.region l.seen.items (length l.seen.items) l.labels.items
