-- The answer to the bytes taken is one to the bytes told; too many bytes are refused.
use Rattle.std.proofs.Common.{Some, sym, subst}
use Rattle.std.proofs.lemmas.Result.{IfOk-weaker}
use Rattle.plan_top.specs.Outcome.{Told}
use Rattle.plan_top.proofs.Outcomes.{too_long}
use Rattle.plan_picture.specs.Outcome.{IsAnswer, IsReadFor, want_of}
use Rattle.plan_picture.specs.declared.answer.Answer.{Answer}
use Rattle.plan_picture.proofs.Written.{of_told, of_written, read_for}
use Rattle.plan_picture.proofs.top.draw.Goals as goal

pub returns-in-Ok-clause-outcome : goal.returns-in-Ok-clause-outcome
returns-in-Ok-clause-outcome g c =
    let command = c.args.command in
    let told : Told = g.S.Source.remaining c.args.source.now in
    let left : Told = g.S.Source.remaining c.take_all.new.source in
    let bytes = c.in-Ok.bytes.items in
    of_written command told left (g.K.Sink.written c.args.sink.now) (g.K.Sink.written c.write.new.sink) c.answer_to.result c.write.result
    (IfOk-weaker c.answer_to.result _ _
    (λ (a : Answer) h. (
      of_told command told bytes a.status a.text.items c.in-Ok.ensures.exact (subst (λ bs. IsAnswer command (Some bs) a.status a.text.items) c.as_slice.ensures.value h),
      read_for a.status told left c.in-Ok.ensures.ended,
    ))
    c.answer_to.ensures)
    c.write.ensures.written

pub returns-in-Err-TooLong-clause-outcome : goal.returns-in-Err-TooLong-clause-outcome
returns-in-Err-TooLong-clause-outcome g c =
    let command = c.args.command in
    let told : Told = g.S.Source.remaining c.args.source.now in
    let left : Told = g.S.Source.remaining c.take_all.new.source in
    of_written command told left (g.K.Sink.written c.args.sink.now) (g.K.Sink.written c.write-in-Err-TooLong.new.sink) c.refused.result c.write-in-Err-TooLong.result
    (IfOk-weaker c.refused.result _ _
    (λ (a : Answer) h. (
      subst (λ s. IsAnswer command told s a.text.items) (sym h.0) (too_long (want_of command) told (c.in-Err-TooLong.ensures.long (cc)), h.1),
      subst (λ s. IsReadFor s told left) (sym h.0) tt,
    ))
    c.refused.ensures)
    c.write-in-Err-TooLong.ensures.written
