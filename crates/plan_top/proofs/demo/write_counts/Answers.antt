-- The first line, whole or cut, and then the last.
use Rattle.std.proofs.Common.{subst, ◌∙◌}
use Rattle.plan_wire.specs.Stream.{Appends, AppendsPart}
use Rattle.plan_top.proofs.Demonstrated.{written, cut}
use Rattle.plan_top.proofs.demo.write_counts.Goals as goal

pub returns-in-Ok-put_line-clause-outcome : goal.returns-in-Ok-put_line-clause-outcome
returns-in-Ok-put_line-clause-outcome g c =
    let before = g.K.Sink.written c.args.sink.now in
    let mid = g.K.Sink.written c.put_line.new.sink in
    let after = g.K.Sink.written c.write_end.new.sink in
    let line = c.as_bytes.ensures.value ∙ c.in-Ok.ensures in
    written c.args.number c.args.counts.edits c.args.counts.replies c.requires before mid after c.write_end.result (subst (Appends before mid) line c.in-Ok-put_line.ensures.put) c.write_end.ensures.outcome

pub returns-clause-outcome : goal.returns-clause-outcome
returns-clause-outcome g c =
    let before = g.K.Sink.written c.args.sink.now in
    let after = g.K.Sink.written c.put_line.new.sink in
    let line = c.as_bytes.ensures.value ∙ c.in-Ok.ensures in
    cut c.args.number c.args.counts.edits c.args.counts.replies c.requires before after after (subst (AppendsPart before after) line c.in-Err.ensures.part)
