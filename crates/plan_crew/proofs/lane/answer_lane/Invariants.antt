-- The questions so far are answered for entries of the list so far.
use Rattle.std.proofs.Common.{length, ◌-◌, ◌≡◌, ◌≤◌, map, take}
use mathlib.Core.List.{IsPrefix}
use Rattle.plan_crew.specs.Lane.{Answers}
use Rattle.plan_crew.proofs.lane.answer_lane.Given as goal

abbrev pub invariant-loop-next : goal.invariant-loop-next
invariant-loop-next g l =
    (l.reader.shelf ≡ l.fn.reader.shelf) × (l.next ≤ length l.questions) × IsPrefix l.fn.reader.list l.reader.list
    × Answers g.J.Job.version_of (g.J.Job.gives l.job) l.reader.list (length l.fn.reader.list - 1) (take l.next l.questions) (map (λ s. (s.version, s.answer)) l.said.items)

abbrev pub decreases-loop-next : goal.decreases-loop-next
decreases-loop-next g l = length l.questions - l.next
