-- One edit more is made.
use Rattle.plan_top.proofs.RoundsCounted.{edited_more}
use Rattle.plan_top.proofs.demonstration.Demonstration.edit_all.Goals as goal

pub loop-edit-preserved : goal.loop-edit-preserved
loop-edit-preserved g c = record { made = edited_more c.loop-edit._edit c.args.self.now c.loop-edit.self c.edit.new.self c.loop-edit.invariant.made c.in_ok-edit.ensures }
