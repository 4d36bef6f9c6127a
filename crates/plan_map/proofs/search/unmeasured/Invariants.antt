use Rattle.std.proofs.Common.{◌≡◌, replicate, None}
use Rattle.plan_map.proofs.search.unmeasured.Given as goal

abbrev pub invariant-loop-i : goal.invariant-loop-i
invariant-loop-i l = l.found.items ≡ replicate l.i None
