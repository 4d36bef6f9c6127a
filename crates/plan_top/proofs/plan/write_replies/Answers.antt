-- Each line is the next one, whole or cut; then comes the last.
use Rattle.std.proofs.Common.{◌∙◌, subst}
use Rattle.plan_wire.specs.Stream.{Appends, AppendsPart}
use Rattle.plan_top.proofs.Replies.{all_written, last_cut, one_more, cut}
use Rattle.plan_top.proofs.plan.write_replies.Goals as goal

pub loop-at-preserved : goal.loop-at-preserved
loop-at-preserved g c =
    let before = g.K.Sink.written c.args.sink.now in
    let mid = g.K.Sink.written c.loop-at.sink in
    let after = g.K.Sink.written c.put_line.new.sink in
    record {
      kept = c.in-Ok.ensures.kept;
      written = one_more c.args.stand.now c.args.queries.now before mid after c.loop-at.at _ c.in-Ok.line.items c.loop-at-test.true c.loop-at.invariant.written c.in-Ok.ensures.line (subst (Appends mid after) c.deref.ensures.value c.in-Ok-put_line.ensures.put);
      count = c.in-Ok-put_line.ensures.still ∙ c.loop-at.invariant.count;
    }

pub returns-in-Err-clause-outcome : goal.returns-in-Err-clause-outcome
returns-in-Err-clause-outcome g c =
    let before = g.K.Sink.written c.args.sink.now in
    let mid = g.K.Sink.written c.loop-at.sink in
    let after = g.K.Sink.written c.put_line.new.sink in
    cut c.args.stand.now c.args.queries.now before mid after c.loop-at.at _ c.in-Ok.line.items c.loop-at-test.true c.loop-at.invariant.written c.in-Ok.ensures.line (subst (AppendsPart mid after) c.deref.ensures.value c.in-Err.ensures.part)

pub returns-in-Ok-put_line-2-clause-outcome : goal.returns-in-Ok-put_line-2-clause-outcome
returns-in-Ok-put_line-2-clause-outcome g c =
    let before = g.K.Sink.written c.args.sink.now in
    let mid = g.K.Sink.written c.loop-at.sink in
    let after = g.K.Sink.written c.put_line-2.new.sink in
    all_written c.args.stand.now c.args.queries.now before mid after c.loop-at.at c.loop-at.auto.at-end c.loop-at-test.false c.loop-at.invariant.written (subst (Appends mid after) c.as_bytes.ensures.value c.in-Ok-put_line-2.ensures.put)

pub returns-clause-outcome : goal.returns-clause-outcome
returns-clause-outcome g c =
    let before = g.K.Sink.written c.args.sink.now in
    let mid = g.K.Sink.written c.loop-at.sink in
    let after = g.K.Sink.written c.put_line-2.new.sink in
    last_cut c.args.stand.now c.args.queries.now before mid after c.loop-at.at c.loop-at.auto.at-end c.loop-at-test.false c.loop-at.invariant.written (subst (AppendsPart mid after) c.as_bytes.ensures.value c.in-Err-put_line.ensures.part)
