-- Each that is left has room for one pair less.
use Rattle.std.proofs.Common.{arith, ◌≡◌, ◌+◌, ◌-◌, ◌≤◌, ◌++◌, ◌∷◌, [], true}
use Rattle.plan_watch.specs.Stays.{is_more}
use Rattle.plan_watch.proofs.Left.{filtered, zipped}
use Rattle.plan_threads.proofs.watch.tell.Goals as goal

pub tell_all-requires : goal.tell_all-requires
tell_all-requires g c k d within = let room = c.requires.room k d within in omega (arith, room, c.requires.version)

pub returns : goal.returns
returns g c =
    let version = c.args.version in
    zipped
    (λ w. 4 ≤ (goal.Watcher-dyn g (w.vtable, w.value)).room w.value + version)
    (λ w. 4 ≤ (goal.Watcher-dyn g (w.vtable, w.value)).room w.value + (version + 1))
    (λ v w. ((goal.Watcher-dyn g (w.vtable, w.value)).heard w.value ≡ (goal.Watcher-dyn g (v.vtable, v.value)).heard v.value ++ (version, c.args.obstacles) ∷ []) × ((goal.Watcher-dyn g (w.vtable, w.value)).room w.value ≡ (goal.Watcher-dyn g (v.vtable, v.value)).room v.value - 1) × ((goal.Watcher-dyn g (v.vtable, v.value)).steady v.value ≡ true → (goal.Watcher-dyn g (w.vtable, w.value)).steady w.value ≡ true))
    _ _ (λ x y grown room. omega (arith, grown.1, room)) c.tell_all.ensures.left
    (filtered (λ w. 4 ≤ (goal.Watcher-dyn g (w.vtable, w.value)).room w.value + version) (λ w. is_more ((goal.Watcher-dyn g (w.vtable, w.value)).will w.value version c.args.obstacles)) c.args.watchers.now.items c.requires.room)
