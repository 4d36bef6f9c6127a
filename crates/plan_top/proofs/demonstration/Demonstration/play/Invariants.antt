-- The rounds so far are played.
use Rattle.plan_top.specs.Demonstration.{HasPlayed}
use Rattle.plan_top.proofs.demonstration.Demonstration.play.Given as goal

abbrev pub invariant-loop-turn : goal.invariant-loop-turn
invariant-loop-turn g l = record { played : HasPlayed l._turn l.fn.self l.self }
