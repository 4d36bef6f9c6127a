-- One height more for each bar.
use Rattle.std.proofs.Common.{◌+◌, sym, subst, arith}
use Rattle.plan_slab.proofs.FirstRungs.{RungsSoFar, one_rung_more, rungs_in_range, first_of}
use Rattle.plan_slab.proofs.rungs.rungs_at.Goals as goal

pub loop-bar-preserved : goal.loop-bar-preserved
loop-bar-preserved c =
    let bars = c.args.bars.now in
    subst (RungsSoFar c.args.z bars (c.loop-bar.bar-index + 1)) (sym c.in_ok-push.ensures.items) (one_rung_more c.args.z bars c.loop-bar.bar-index c.loop-bar.rungs.items c.bar-item.result c.rung_of.result c.loop-bar.invariant c.loop-bar-test.true c.bar-item.is c.rung_of.ensures)

pub keep_least-requires : goal.keep_least-requires
keep_least-requires c = rungs_in_range c.args.z c.args.bars.now c.loop-bar.bar-index c.loop-bar.rungs.items c.loop-bar.invariant

pub returns : goal.returns
returns c = first_of c.args.z c.args.bars.now c.loop-bar.bar-index c.loop-bar.rungs.items _ (omega arith) c.loop-bar.invariant c.keep_least.ensures
