-- The readers so far know of the editor's list.
use Rattle.std.proofs.Common.{◌≡◌, ℕ, ◌<◌, ◌≤◌, length, get_or}
use Rattle.plan_crew.specs.Works.{AllGoOn}
use Rattle.plan_crew.specs.declared.work.Work.{Work}
use Rattle.plan_crew.proofs.settle.inform_all.Given as goal

abbrev pub invariant-loop-k : goal.invariant-loop-k
invariant-loop-k g l =
    (l.editor ≡ l.fn.editor) × AllGoOn l.fn.works l.works
    × ((j : ℕ) (d : Work _ _ _ _ _ _) → j < l.k → length l.fn.editor.list ≤ length (get_or l.works j d).reader.list)
