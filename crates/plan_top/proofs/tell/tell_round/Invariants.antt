-- The edits before the place are told.
use Rattle.std.proofs.Common.{map}
use Rattle.plan_crew.specs.Edited.{end_seen}
use Rattle.plan_top.proofs.Watchers.{Told}
use Rattle.plan_top.proofs.tell.tell_round.Given as goal

abbrev pub invariant-loop-at : goal.invariant-loop-at
invariant-loop-at g l =
    Told (λ w. (goal.Watcher-dyn g (w.vtable, w.value)).heard w.value) (λ w. (goal.Watcher-dyn g (w.vtable, w.value)).room w.value) (λ w. (goal.Watcher-dyn g (w.vtable, w.value)).steady w.value)
    l.edits (map (λ e. end_seen e) l.ends) l.fn.obstacles l.fn.watchers.items l.at l.count l.watchers.items
