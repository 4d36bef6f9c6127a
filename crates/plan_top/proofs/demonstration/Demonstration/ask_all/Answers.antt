-- One query more is answered.
use Rattle.plan_top.proofs.RoundsCounted.{asked_more}
use Rattle.plan_top.proofs.demonstration.Demonstration.ask_all.Goals as goal

pub loop-query-preserved : goal.loop-query-preserved
loop-query-preserved c = record { answered = asked_more c.loop-query._query c.args.self.now c.loop-query.self c.ask.new.self c.loop-query.invariant.answered c.in_ok-ask.ensures }
