-- The lines of the edits from this one on are left, and the count of faults stands still.
use Rattle.std.proofs.Common.{◌≡◌, suc, drop, map}
use Rattle.plan_crew.specs.Edited.{end_seen}
use Rattle.plan_top.specs.Played.{ended_lines}
use Rattle.plan_top.proofs.WrittenLines.{AreLeft}
use Rattle.plan_top.proofs.round_lines.write_edits.Given as goal

abbrev pub invariant-loop-at : goal.invariant-loop-at
invariant-loop-at g l = record {
  left : AreLeft (ended_lines 1 (map (λ e. end_seen e) l.edits)) (ended_lines (suc l.at) (map (λ e. end_seen e) (drop l.at l.edits))) (g.K.Sink.written l.fn.sink) (g.K.Sink.written l.sink);
  count : g.K.Sink.faults l.sink ≡ g.K.Sink.faults l.fn.sink;
}
