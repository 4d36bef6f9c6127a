-- The lines of the lanes from this one on are left, and the count of faults stands still.
use Rattle.std.proofs.Common.{◌≡◌, ◌≤◌, ◌+◌, length, map, All}
use Rattle.std.specs.Vec.Iter.{into_iter_items, into_iter_len}
use Rattle.plan_top.specs.Played.{said_seen}
use Rattle.plan_top.specs.Session.{lanes_lines}
use Rattle.plan_top.proofs.WrittenLines.{AreLeft}
use Rattle.plan_top.proofs.round_lines.write_lanes.Given as goal

abbrev pub invariant-loop-lane : goal.invariant-loop-lane
invariant-loop-lane g l = record {
  known : into_iter_len l.lane-iterator ≡ length (into_iter_items l.lane-iterator);
  number : l.number + length (into_iter_items l.lane-iterator) ≡ 1 + length l.fn.lanes.items;
  few : All (λ v. length v.items ≤ 16) (into_iter_items l.lane-iterator);
  left : AreLeft (lanes_lines 1 (map (λ v. map (λ s. said_seen (s.version, s.answer)) v.items) l.fn.lanes.items)) (lanes_lines l.number (map (λ v. map (λ s. said_seen (s.version, s.answer)) v.items) (into_iter_items l.lane-iterator))) (g.K.Sink.written l.fn.sink) (g.K.Sink.written l.sink);
  count : g.K.Sink.faults l.sink ≡ g.K.Sink.faults l.fn.sink;
}
