-- The watchers so far have room for three pairs.
use Rattle.std.proofs.Common.{◌+◌, ◌≤◌, All}
use Rattle.plan_threads.proofs.watch.done_after_each.Given as goal

abbrev pub invariant-loop-k : goal.invariant-loop-k
invariant-loop-k g l = All (λ w. 4 ≤ (goal.Watcher-dyn g (w.vtable, w.value)).room w.value + 1) l.watchers.items
