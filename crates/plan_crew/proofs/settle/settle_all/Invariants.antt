-- The readers so far have settled, and the others are as they were.
use Rattle.std.proofs.Common.{◌≡◌, ℕ, ◌<◌, ◌≤◌, get_or}
use Rattle.plan_crew.specs.Works.{AllGoOn, Settles}
use Rattle.plan_crew.specs.declared.work.Work.{Work}
use Rattle.plan_crew.proofs.settle.settle_all.Given as goal

abbrev pub invariant-loop-k : goal.invariant-loop-k
invariant-loop-k g l =
    (l.editor ≡ l.fn.editor) × AllGoOn l.fn.works l.works
    × ((j : ℕ) (d : Work _ _ _ _ _ _) → j < l.k → Settles l.fn.editor.list (get_or l.fn.works j d) (get_or l.works j d))
    × ((j : ℕ) (d : Work _ _ _ _ _ _) → l.k ≤ j → get_or l.works j d ≡ get_or l.fn.works j d)
