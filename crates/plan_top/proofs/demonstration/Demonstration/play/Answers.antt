-- One round more is played.
use Rattle.plan_top.proofs.RoundsCounted.{played_more}
use Rattle.plan_top.proofs.demonstration.Demonstration.play.Goals as goal

pub loop-turn-preserved : goal.loop-turn-preserved
loop-turn-preserved g c = record { played = played_more c.loop-turn._turn c.args.self.now c.loop-turn.self c.edit_all.new.self c.ask_all.new.self c.loop-turn.invariant.played c.in_ok-edit_all.ensures c.in_ok-ask_all.ensures }
