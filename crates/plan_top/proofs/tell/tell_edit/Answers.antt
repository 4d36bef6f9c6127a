-- The pair of an accepted edit is told to all.
use Rattle.std.proofs.Common.{rules, ◌≡◌, Ok}
use Rattle.plan_watch.specs.Stays.{is_more}
use Rattle.plan_crew.specs.Edited.{end_seen}
use Rattle.plan_top.proofs.Watchers.{accepted_told, room_left}
use Rattle.plan_top.proofs.tell.tell_edit.Goals as goal

pub returns-in-Accepted-clause-told : goal.returns-in-Accepted-clause-told
returns-in-Accepted-clause-told g c =
    let version = c.in-Accepted.version in
    let count = c.count_after-count.result in
    let accepted : end_seen c.args.end.now ≡ Ok version = search rules in
    accepted_told (λ w. (goal.Watcher-dyn g (w.vtable, w.value)).heard w.value) (λ w. (goal.Watcher-dyn g (w.vtable, w.value)).room w.value) (λ w. (goal.Watcher-dyn g (w.vtable, w.value)).steady w.value)
    (λ w. is_more ((goal.Watcher-dyn g (w.vtable, w.value)).will w.value version count))
    version count c.args.obstacles c.args.edit.now _ c.args.watchers.now.items c.tell_all.new.watchers.items accepted c.count_after-count.ensures c.tell_all.ensures.left c.tell_all.ensures.steady

pub returns-in-Accepted-clause-room : goal.returns-in-Accepted-clause-room
returns-in-Accepted-clause-room g c k room =
    let version = c.in-Accepted.version in
    let count = c.count_after-count.result in
    room_left (λ w. (goal.Watcher-dyn g (w.vtable, w.value)).heard w.value) (λ w. (goal.Watcher-dyn g (w.vtable, w.value)).room w.value) (λ w. (goal.Watcher-dyn g (w.vtable, w.value)).steady w.value)
    (λ w. is_more ((goal.Watcher-dyn g (w.vtable, w.value)).will w.value version count))
    (version, count) k c.args.watchers.now.items c.tell_all.new.watchers.items c.tell_all.ensures.left room
