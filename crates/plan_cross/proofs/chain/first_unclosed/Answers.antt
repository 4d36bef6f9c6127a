-- A segment with an end in the list of the odd ends has an odd end.
use Rattle.plan_cross.proofs.Unclosed.{first_unclosed}
use Rattle.plan_cross.proofs.chain.first_unclosed.Goals as goal

pub returns-clause-first : goal.returns-clause-first
returns-clause-first c =
    let odd = rw (c.deref.ensures.value, c.chain.view_is) at c.in_ok-odd.ensures in
    first_unclosed c.args.chain.now c.in_ok-odd.odd.items c.first_ending_in.result odd (rw (c.deref-2.ensures.value, c.deref-3.ensures.value, c.chain.view_is) at c.first_ending_in.ensures)

pub returns-clause-points : goal.returns-clause-points
returns-clause-points c = let odd = rw (c.deref.ensures.value, c.chain.view_is) at c.in_ok-odd.ensures in odd.of_points
