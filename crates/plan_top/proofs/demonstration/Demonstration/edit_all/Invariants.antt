-- The edits so far are made.
use Rattle.plan_top.specs.Demonstration.{HasEditedAll}
use Rattle.plan_top.proofs.demonstration.Demonstration.edit_all.Given as goal

abbrev pub invariant-loop-edit : goal.invariant-loop-edit
invariant-loop-edit g l = record { made : HasEditedAll l._edit l.fn.self l.self }
