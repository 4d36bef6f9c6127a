-- Each fault says what acceptance denies.
use Rattle.plan_check.proofs.Exclusion.{accepted_or_fault}
use Rattle.plan_check.proofs.laws.accepted_or_fault.Goals as goal

pub returns : goal.returns
returns c = accepted_or_fault
