-- Those before the place were told and kept; those from there on are as they were, and have room; each steady one that was told stays.
use Rattle.std.proofs.Common.{◌≡◌, ◌-◌, ◌<◌, ◌++◌, ◌∷◌, [], filter, length, true}
use Rattle.plan_watch.specs.Stays.{is_more}
use Rattle.plan_watch.proofs.Telling.{Turned}
use Rattle.plan_watch.proofs.tell.tell_all.Given as goal

abbrev pub invariant-loop-at : goal.invariant-loop-at
invariant-loop-at g l =
    Turned
    (λ v w. ((goal.Watcher-dyn g (w.vtable, w.value)).heard w.value ≡ (goal.Watcher-dyn g (v.vtable, v.value)).heard v.value ++ (l.version, l.obstacles) ∷ []) × ((goal.Watcher-dyn g (w.vtable, w.value)).room w.value ≡ (goal.Watcher-dyn g (v.vtable, v.value)).room v.value - 1) × ((goal.Watcher-dyn g (v.vtable, v.value)).steady v.value ≡ true → (goal.Watcher-dyn g (w.vtable, w.value)).steady w.value ≡ true))
    (λ w. is_more ((goal.Watcher-dyn g (w.vtable, w.value)).will w.value l.version l.obstacles))
    (λ w. 0 < (goal.Watcher-dyn g (w.vtable, w.value)).room w.value)
    (λ w. (goal.Watcher-dyn g (w.vtable, w.value)).steady w.value ≡ true → is_more ((goal.Watcher-dyn g (w.vtable, w.value)).will w.value l.version l.obstacles) ≡ true)
    l.fn.watchers.items
    (filter (λ w. is_more ((goal.Watcher-dyn g (w.vtable, w.value)).will w.value l.version l.obstacles)) l.fn.watchers.items)
    l.at l.watchers.items

abbrev pub decreases-loop-at : goal.decreases-loop-at
decreases-loop-at g l = length l.watchers.items - l.at
