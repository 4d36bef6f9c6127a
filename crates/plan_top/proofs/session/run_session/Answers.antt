-- The rounds of the bytes taken are those of the bytes told; too many bytes are refused, and nobody is told anything.
use Rattle.std.proofs.Common.{List, ℕ, refl, subst}
use Rattle.plan_wire.specs.declared.documents.Want.TheVariants as want
use Rattle.plan_top.specs.Outcome.{IsRefusal, OnDocument, Told}
use Rattle.plan_top.specs.Played.{IsOpened}
use Rattle.plan_top.specs.declared.status.Refusal.TheVariants.{TooLong}
use Rattle.plan_top.proofs.Outcomes.{too_long}
use Rattle.plan_top.proofs.Planned.{told_of}
use Rattle.plan_top.proofs.Sessions.{of_refusal, of_refused, of_rounds}
use Rattle.plan_top.proofs.session.run_session.Goals as goal

pub returns-in-Ok-Ok-clause-outcome : goal.returns-in-Ok-Ok-clause-outcome
returns-in-Ok-Ok-clause-outcome g c =
    let told : Told = g.S.Source.remaining c.args.source.now in
    let left : Told = g.S.Source.remaining c.take_all.new.source in
    let before : Told = g.K.Sink.written c.args.sink.now in
    let after : Told = g.K.Sink.written c.play.new.sink in
    let first = c.in-Ok-Ok.session.stand in
    let rounds = c.in-Ok-Ok.session.rounds.items in
    let P = λ (bytes : List ℕ). OnDocument want.Session bytes (λ d. IsOpened d first rounds) in
    let taken : P c.as_slice.result.now = rw c.in-Ok-Ok.field-0-is at c.in-Ok-Ok.ensures.session in
    of_rounds told left before after _ first rounds _ c.play.result (told_of P told c.in-Ok.bytes.items c.in-Ok.ensures.exact (subst P c.as_slice.ensures.value taken)) c.in-Ok.ensures.ended c.as_slice-in-Ok-Ok.ensures.value c.play.ensures.outcome

pub returns-in-Ok-Err-clause-outcome : goal.returns-in-Ok-Err-clause-outcome
returns-in-Ok-Err-clause-outcome g c =
    let told : Told = g.S.Source.remaining c.args.source.now in
    let left : Told = g.S.Source.remaining c.take_all.new.source in
    let before : Told = g.K.Sink.written c.args.sink.now in
    let after : Told = g.K.Sink.written c.write_answer.new.sink in
    let refusal = c.in-Ok-Err.refusal in
    let P = λ (bytes : List ℕ). IsRefusal want.Session bytes refusal in
    let refused : P c.as_slice.result.now = rw c.in-Ok-Err.field-0-is at c.in-Ok-Err.ensures.session in
    of_refusal told left before after _ refusal c.write_answer.result refl (told_of P told c.in-Ok.bytes.items c.in-Ok.ensures.exact (subst P c.as_slice.ensures.value refused)) c.write_answer.ensures.outcome

pub returns-in-Err-TooLong-clause-outcome : goal.returns-in-Err-TooLong-clause-outcome
returns-in-Err-TooLong-clause-outcome g c =
    let told : Told = g.S.Source.remaining c.args.source.now in
    let left : Told = g.S.Source.remaining c.take_all.new.source in
    let before : Told = g.K.Sink.written c.args.sink.now in
    let after : Told = g.K.Sink.written c.write_line.new.sink in
    of_refused told left before after _ TooLong c.write_line.result refl (too_long want.Session told (c.in-Err-TooLong.ensures.long (cc))) c.write_line.ensures.outcome
