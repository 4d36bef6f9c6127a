-- The questions so far are answered for the last entry.
use Rattle.std.proofs.Common.{length, ◌-◌, ◌≤◌, map, take}
use Rattle.plan_shelf.specs.Told.{told_list}
use Rattle.plan_crew.specs.Lane.{Answers}
use Rattle.plan_crew.proofs.collect.answer_last.Given as goal

abbrev pub invariant-loop-next : goal.invariant-loop-next
invariant-loop-next g l =
    (l.next ≤ length l.questions)
    × Answers g.J.Job.version_of (g.J.Job.gives l.job) (told_list l.last) (length (told_list l.last) - 1) (take l.next l.questions) (map (λ s. (s.version, s.answer)) l.said.items)

abbrev pub decreases-loop-next : goal.decreases-loop-next
decreases-loop-next g l = length l.questions - l.next
