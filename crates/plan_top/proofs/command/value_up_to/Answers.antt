-- The digits that are left begin with the one read, and a number above the limit stays above it.
use Rattle.std.proofs.Common.{◌<◌, ◌∙◌, sym, suc, length, get_or, drop, drop-cons, arith}
use Rattle.plan_top.proofs.Digits.{above}
use Rattle.plan_top.proofs.command.value_up_to.Goals as goal

pub returns-then-number-limit : goal.returns-then-number-limit
returns-then-number-limit c =
    let digits = c.args.digits.now in
    let i = c.loop-digit.digit-index in
    let there : i < length digits = omega arith in
    sym (c.loop-digit.invariant.same ∙ rw (drop-cons digits i 0) (above _ c.loop-digit.number (get_or digits i 0) (drop (suc i) digits) (omega arith)))
