-- The lines so far are written, each text that is kept is that of a chain, and the count of faults stands still.
use Rattle.std.proofs.Common.{◌≡◌, map}
use Rattle.plan_wire.specs.Seen.{query_seen}
use Rattle.plan_top.specs.Plan.{AreKept}
use Rattle.plan_top.proofs.Replies.{Written}
use Rattle.plan_top.proofs.plan.write_replies.Given as goal

abbrev pub invariant-loop-at : goal.invariant-loop-at
invariant-loop-at g l = record {
  written : Written l.stand (map query_seen l.queries) (g.K.Sink.written l.fn.sink) (g.K.Sink.written l.sink) l.at;
  kept : AreKept l.stand l.kept.items;
  count : g.K.Sink.faults l.sink ≡ g.K.Sink.faults l.fn.sink;
}
