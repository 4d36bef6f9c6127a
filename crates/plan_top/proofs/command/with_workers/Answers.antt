-- The number that is read is from 1 to 16.
use Rattle.std.proofs.Common.{sym, ◌∙◌}
use Rattle.plan_top.proofs.Limits.{bounded}
use Rattle.plan_top.proofs.command.with_workers.Goals as goal

pub returns-in_ok-count-in-plan-clause-range : goal.returns-in_ok-count-in-plan-clause-range
returns-in_ok-count-in-plan-clause-range c = bounded 16 c.args.workers.now c.in_ok-count-in-plan.count (sym c.number_up_to.ensures ∙ c.in_ok-count-in-plan.was)

pub returns-in_ok-count-in-session-clause-range : goal.returns-in_ok-count-in-session-clause-range
returns-in_ok-count-in-session-clause-range c = bounded 16 c.args.workers.now c.in_ok-count-in-session.count (sym c.number_up_to-in-session.ensures ∙ c.in_ok-count-in-session.was)
