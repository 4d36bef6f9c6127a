use Rattle.plan_map.specs.Search.{AreMeasured}
use Rattle.plan_map.proofs.component.measured.Given as goal

abbrev pub invariant-loop-i : goal.invariant-loop-i
invariant-loop-i l = AreMeasured l.distances l.i l.found.items
