-- The queries so far are answered.
use Rattle.plan_top.specs.Demonstration.{HasAskedAll}
use Rattle.plan_top.proofs.demonstration.Demonstration.ask_all.Given as goal

abbrev pub invariant-loop-query : goal.invariant-loop-query
invariant-loop-query l = record { answered : HasAskedAll l._query l.fn.self l.self }
