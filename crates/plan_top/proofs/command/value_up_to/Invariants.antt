-- The digits read so far have become the number, and the digits that are left go on from it.
use Rattle.std.proofs.Common.{◌≡◌, ◌≤◌, drop}
use Rattle.std.specs.Prelude.{option_and_then}
use Rattle.plan_top.specs.Command.{at_most, with_digits}
use Rattle.plan_top.proofs.command.value_up_to.Given as goal

abbrev pub invariant-loop-digit : goal.invariant-loop-digit
invariant-loop-digit l = record {
  below : l.number ≤ l.limit;
  same : option_and_then (at_most l.limit) (with_digits 0 l.digits) ≡ option_and_then (at_most l.limit) (with_digits l.number (drop l.digit-index l.digits));
}
