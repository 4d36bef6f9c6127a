-- No end is an end an odd number of times.
use Rattle.std.proofs.Common.{arith}
use Rattle.std.proofs.lemmas.Bool.Decides.{nat_tests}
use Rattle.plan_cross.proofs.Unclosed.{closed_is_empty}
use Rattle.plan_cross.proofs.chain.closed.Goals as goal

pub returns : goal.returns
returns c =
    let odd = rw (c.deref.ensures.value, c.chain.view_is) at c.in_ok-odd.ensures in
    let empty = closed_is_empty c.args.chain.now c.in_ok-odd.odd.items odd in
    let test = c.is_empty.ensures in
    let ok = c.in_ok-odd.odd.ok in
    (λ t. empty.1 (grind (arith, nat_tests)), λ k. let e = empty.0 k in grind (arith, nat_tests))
