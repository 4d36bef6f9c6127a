-- The answer to the bytes taken is one to the bytes told, and its line was written whole or cut by a fault.
use Rattle.plan_wire.specs.declared.documents.Want.TheVariants.{Check}
use Rattle.plan_top.specs.Outcome.{Told, IsAnswer}
use Rattle.plan_top.specs.declared.status.Refusal.TheVariants.{TooLong}
use Rattle.plan_top.specs.declared.status.Status.TheVariants.{Refused}
use Rattle.plan_top.proofs.Outcomes.{too_long, of_line}
use Rattle.plan_top.proofs.top.run_check.Goals as goal

pub returns-in-Err-TooLong-clause-outcome : goal.returns-in-Err-TooLong-clause-outcome
returns-in-Err-TooLong-clause-outcome g c =
    let told : Told = g.S.Source.remaining c.args.source.now in
    let left : Told = g.S.Source.remaining c.take_all.new.source in
    let before : Told = g.K.Sink.written c.args.sink.now in
    let after : Told = g.K.Sink.written c.write_line.new.sink in
    let answer : IsAnswer told (Refused TooLong) = too_long Check told (c.in-Err-TooLong.ensures.long (cc)) in
    of_line told left before after (Refused TooLong) c.write_line.result answer (λ put. (answer, put)) c.write_line.ensures.outcome
