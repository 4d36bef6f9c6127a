-- The lots so far have lesser keys.
use Rattle.std.proofs.Common.{map}
use Rattle.plan_slab.specs.LotKeys.{AreBelow}
use Rattle.plan_slab.specs.Seen.{lot_seen}
use Rattle.plan_slab.proofs.search.first_from_near.Given as goal

abbrev pub invariant-loop-at : goal.invariant-loop-at
invariant-loop-at l = AreBelow (map lot_seen l.lots) l.least l.at
