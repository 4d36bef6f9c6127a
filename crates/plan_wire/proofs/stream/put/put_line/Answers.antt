-- What the sink took is added to what is done.
use Rattle.std.proofs.Common.{◌∙◌, arith, length-drop}
use Rattle.std.proofs.lemmas.List.{take_rest}
use Rattle.plan_wire.proofs.Streams.{appends_more}
use Rattle.plan_wire.proofs.stream.put.put_line.Goals as goal

pub loop-done-preserved : goal.loop-done-preserved
loop-done-preserved g c = record {
  within = omega (arith, c.in_ok-n.ensures.within, length-drop c.loop-done.done c.args.line.now);
  count = c.in_ok-n.ensures.still ∙ c.loop-done.invariant.count;
  written = appends_more _ _ _ _ _ _ c.loop-done.invariant.written (rw take_rest at c.in_ok-n.ensures.taken);
}
