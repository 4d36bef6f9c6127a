-- What is done of the line has been added to the sink, and the count of faults stands still.
use Rattle.std.proofs.Common.{◌≡◌, length, take, ◌-◌, ◌≤◌}
use Rattle.plan_wire.specs.Stream.{Appends}
use Rattle.plan_wire.proofs.stream.put.put_line.Given as goal

abbrev pub invariant-loop-done : goal.invariant-loop-done
invariant-loop-done g l = record {
  within : l.done ≤ length l.line;
  count : g.K.Sink.faults l.sink ≡ g.K.Sink.faults l.fn.sink;
  written : Appends (g.K.Sink.written l.fn.sink) (g.K.Sink.written l.sink) (take l.done l.line);
}

abbrev pub decreases-loop-done : goal.decreases-loop-done
decreases-loop-done g l = length l.line - l.done
