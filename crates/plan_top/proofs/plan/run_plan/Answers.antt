-- The replies to the queries of the bytes taken are those of the bytes told; too many bytes are refused.
use Rattle.std.proofs.Common.{List, ℕ, map, subst}
use Rattle.plan_wire.specs.Seen.{query_seen}
use Rattle.plan_wire.specs.declared.documents.Want.TheVariants as want
use Rattle.plan_top.specs.Outcome.{Told, OnDocument}
use Rattle.plan_top.specs.Plan.{IsReady, RepliesOutcome}
use Rattle.plan_top.specs.declared.status.Refusal.TheVariants.{TooLong}
use Rattle.plan_top.proofs.Outcomes.{too_long}
use Rattle.plan_top.proofs.Planned.{of_replies, of_refused, told_of}
use Rattle.plan_top.proofs.plan.run_plan.Goals as goal

pub returns-in-Ok-Ok-clause-outcome : goal.returns-in-Ok-Ok-clause-outcome
returns-in-Ok-Ok-clause-outcome g c =
    let told : Told = g.S.Source.remaining c.args.source.now in
    let left : Told = g.S.Source.remaining c.take_all.new.source in
    let before : Told = g.K.Sink.written c.args.sink.now in
    let after : Told = g.K.Sink.written c.write_replies.new.sink in
    let first = c.in-Ok-Ok.plan.stand in
    let asked = map query_seen c.in-Ok-Ok.plan.queries.items in
    let P = λ (bytes : List ℕ). OnDocument want.Plan bytes (λ d. IsReady d first asked) in
    let taken : P c.as_slice.result.now = rw c.in-Ok-Ok.field-0-is at c.in-Ok-Ok.ensures.plan in
    of_replies told left before after first asked c.write_replies.result (told_of P told c.in-Ok.bytes.items c.in-Ok.ensures.exact (subst P c.as_slice.ensures.value taken)) c.in-Ok.ensures.ended
    (subst (λ qs. RepliesOutcome first (map query_seen qs) before after c.write_replies.result) c.as_slice-in-Ok-Ok.ensures.value c.write_replies.ensures.outcome)

pub returns-in-Err-TooLong-clause-outcome : goal.returns-in-Err-TooLong-clause-outcome
returns-in-Err-TooLong-clause-outcome g c =
    let told : Told = g.S.Source.remaining c.args.source.now in
    let left : Told = g.S.Source.remaining c.take_all.new.source in
    let before : Told = g.K.Sink.written c.args.sink.now in
    let after : Told = g.K.Sink.written c.write_line.new.sink in
    of_refused told left before after TooLong c.write_line.result (too_long want.Plan told (c.in-Err-TooLong.ensures.long (cc))) c.write_line.ensures.outcome
