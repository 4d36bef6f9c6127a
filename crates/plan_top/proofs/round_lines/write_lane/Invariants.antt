-- The lines of the replies from this one on are left, and the count of faults stands still.
use Rattle.std.proofs.Common.{◌≡◌, ◌+◌, length, map}
use Rattle.std.specs.Vec.Iter.{into_iter_items, into_iter_len}
use Rattle.plan_top.specs.Played.{said_seen}
use Rattle.plan_top.specs.Session.{lane_lines}
use Rattle.plan_top.proofs.WrittenLines.{AreLeft}
use Rattle.plan_top.proofs.round_lines.write_lane.Given as goal

abbrev pub invariant-loop-said : goal.invariant-loop-said
invariant-loop-said g l = record {
  known : into_iter_len l.said-iterator ≡ length (into_iter_items l.said-iterator);
  number : l.number + length (into_iter_items l.said-iterator) ≡ 1 + length l.fn.replies.items;
  left : AreLeft (lane_lines l.lane 1 (map (λ s. said_seen (s.version, s.answer)) l.fn.replies.items)) (lane_lines l.lane l.number (map (λ s. said_seen (s.version, s.answer)) (into_iter_items l.said-iterator))) (g.K.Sink.written l.fn.sink) (g.K.Sink.written l.sink);
  count : g.K.Sink.faults l.sink ≡ g.K.Sink.faults l.fn.sink;
}
