-- The rounds so far are played, told and written; each has added at most 32 versions.
use Rattle.std.proofs.Common.{◌≡◌, ◌+◌, ◌*◌, ◌≤◌, [], ◌∷◌, length, map, All}
use Rattle.plan_shelf.specs.Tied.{IsTied}
use Rattle.plan_top.specs.Played.{round_seen}
use Rattle.plan_top.proofs.Histories.{Numbered}
use Rattle.plan_top.proofs.PlayedRounds.{Played}
use Rattle.plan_top.proofs.ToldRounds.{LastHas}
use Rattle.plan_top.proofs.play.play_all.Given as goal

abbrev pub invariant-loop-at : goal.invariant-loop-at
invariant-loop-at g l = record {
  tied : IsTied l.editor;
  readers : All (λ r. r.shelf ≡ l.editor.shelf) l.readers.items;
  long : length l.editor.list ≤ 1 + 32 * l.at;
  numbered : Numbered 0 l.editor.list;
  last : LastHas l.editor.list l.count;
  room : All (λ w. 2048 ≤ (goal.Watcher-dyn g (w.vtable, w.value)).room w.value + 32 * l.at) l.watchers.items;
  played : (v : _) → l.fn.editor.list ≡ v ∷ []
      → Played v.stand (map round_seen l.rounds) l.editor.list (g.K.Sink.written l.fn.sink) (g.K.Sink.written l.sink)
      (map (λ w. ((goal.Watcher-dyn g (w.vtable, w.value)).heard w.value, (goal.Watcher-dyn g (w.vtable, w.value)).steady w.value)) l.fn.watchers.items)
      (map (λ w. ((goal.Watcher-dyn g (w.vtable, w.value)).heard w.value, (goal.Watcher-dyn g (w.vtable, w.value)).steady w.value)) l.watchers.items) l.at;
  faults : g.K.Sink.faults l.sink ≡ g.K.Sink.faults l.fn.sink;
}
