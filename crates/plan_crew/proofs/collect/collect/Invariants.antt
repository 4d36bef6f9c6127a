-- What the lanes so far said is collected, and the others' is still with their readers.
use Rattle.std.proofs.Common.{◌≡◌, ℕ, ◌-◌, ◌<◌, ◌≤◌, length, map, take, get_or}
use Rattle.std.specs.List.{AllZip}
use Rattle.plan_crew.specs.Lane.{Answers}
use Rattle.plan_crew.specs.Works.{AllSaid}
use Rattle.plan_crew.specs.declared.work.Work.{Work}
use Rattle.plan_crew.proofs.collect.collect.Given as goal

abbrev pub invariant-loop-next : goal.invariant-loop-next
invariant-loop-next g l =
    (l.next ≤ length l.lanes)
    × (map (λ w. w.reader) l.works ≡ map (λ w. w.reader) l.fn.works)
    × ((j : ℕ) (d : Work _ _ _ _ _ _) → l.next ≤ j → get_or l.works j d ≡ get_or l.fn.works j d)
    × ((from : ℕ) → from < length l.fn.editor.list → AllSaid g.J.Job.version_of (g.J.Job.gives l.job) l.fn.editor.list from l.fn.works l.lanes
    → AllZip (Answers g.J.Job.version_of (g.J.Job.gives l.job) l.fn.editor.list from) (take l.next (map (λ v. v.items) l.lanes)) (map (λ v. map (λ s. (s.version, s.answer)) v.items) l.all.items))

abbrev pub decreases-loop-next : goal.decreases-loop-next
decreases-loop-next g l = length l.lanes - l.next
