-- One pair more.
use Rattle.std.proofs.Common.{◌+◌, sym, subst, arith}
use Rattle.plan_slab.proofs.OneByOne.{HasEach, has_none, has_more}
use Rattle.plan_slab.proofs.SlabEnds.{IsPairAt, pair_at, are_pairs}
use Rattle.plan_slab.proofs.ends.paired.Goals as goal

pub loop-i-init : goal.loop-i-init
loop-i-init c = let P = IsPairAt c.args.lefts.now c.args.rights.now in subst (HasEach P 0) (sym c.new-pairs.ensures.items) (has_none P)

pub loop-i-preserved : goal.loop-i-preserved
loop-i-preserved c =
    let i = c.loop-i.i in
    let P = IsPairAt c.args.lefts.now c.args.rights.now in
    subst (HasEach P (i + 1)) (sym c.in_ok-push.ensures.items) (has_more P i c.loop-i.pairs.items _ c.loop-i.invariant (pair_at c.args.lefts.now c.args.rights.now i 0 0 c.loop-i-test.true (omega arith)))

pub returns : goal.returns
returns c = are_pairs c.args.lefts.now c.args.rights.now c.loop-i.i c.loop-i.pairs.items (omega arith) c.loop-i.invariant
