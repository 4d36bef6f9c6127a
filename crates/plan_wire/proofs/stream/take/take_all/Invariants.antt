-- The bytes so far are what was taken from the source, one more than the most at the end, and the count of faults stands still.
use Rattle.std.proofs.Common.{◌≡◌, ◌≤◌, ◌-◌, vec_len}
use Rattle.plan_wire.specs.Stream.{Takes}
use Rattle.plan_wire.proofs.stream.take.take_all.Given as goal

abbrev pub invariant-loop-room : goal.invariant-loop-room
invariant-loop-room g l = record {
  within : vec_len l.bytes ≤ 4194305;
  count : g.S.Source.faults l.source ≡ g.S.Source.faults l.fn.source;
  taken : Takes (g.S.Source.remaining l.fn.source) (g.S.Source.remaining l.source) l.bytes.items;
}

abbrev pub decreases-loop-room : goal.decreases-loop-room
decreases-loop-room g l = 4194305 - vec_len l.bytes
