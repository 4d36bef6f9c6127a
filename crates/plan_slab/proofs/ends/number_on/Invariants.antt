-- The marks so far are below the span.
use Rattle.std.proofs.Common.{◌≤◌}
use Rattle.plan_spec.specs.Neighbours.{meets}
use Rattle.plan_slab.specs.Seen.{marks_seen, strand_seen}
use Rattle.plan_slab.proofs.ends.number_on.Given as goal

abbrev pub invariant-loop-at : goal.invariant-loop-at
invariant-loop-at l = l.at ≤ meets (strand_seen l.span) (marks_seen l.line l.marks)
