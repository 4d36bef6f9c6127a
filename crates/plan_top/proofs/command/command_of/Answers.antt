-- The number of a demonstration and that of its workers are in their ranges.
use Rattle.std.proofs.Common.{sym, ◌∙◌}
use Rattle.plan_top.proofs.Limits.{bounded}
use Rattle.plan_top.proofs.command.command_of.Goals as goal

pub returns-in_ok-workers-in-len3-clause-range : goal.returns-in_ok-workers-in-len3-clause-range
returns-in_ok-workers-in-len3-clause-range c = (
  bounded 1000 c.as_str-in-len3.result.now c.in_ok-number-in-len3.number (sym c.number_up_to.ensures ∙ c.in_ok-number-in-len3.was),
  bounded 16 c.as_str-in-len3-2.result.now c.in_ok-workers-in-len3.workers (sym c.number_up_to-in-len3.ensures ∙ c.in_ok-workers-in-len3.was),
)
