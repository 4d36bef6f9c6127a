-- One bar more that begins by the line.
use Rattle.std.proofs.Common.{◌≡◌, ◌+◌, length, refl, sym, subst, arith}
use Rattle.plan_slab.specs.Sweeps.{AreEntered}
use Rattle.plan_slab.proofs.ActiveBars.{none_entered, one_entered}
use Rattle.plan_slab.proofs.sweep.enter.Goals as goal

pub loop-i-init : goal.loop-i-init
loop-i-init c = none_entered c.args.bars.now c.args.next c.args.line c.args.active.now.items

pub loop-i-preserved : goal.loop-i-preserved
loop-i-preserved c =
    let b = c.index-bars-i.result in
    subst (AreEntered c.args.bars.now c.args.next (c.loop-i.i + 1) c.args.line c.args.active.now.items) (sym c.in_ok-push.ensures.items)
    (one_entered c.args.bars.now c.args.next c.loop-i.i c.args.line c.args.active.now.items c.loop-i.active.items b c.loop-i.invariant c.loop-i-test.true c.index-bars-i.is (c.if-not-begins_by.ensures.0 refl))

pub returns : goal.returns
returns c =
    let n = length c.args.bars.now in
    let e : c.loop-i.i ≡ n = omega arith in
    record {
      upto = omega arith;
      from = omega arith;
      entered = subst (λ i. AreEntered c.args.bars.now c.args.next i c.args.line c.args.active.now.items c.loop-i.active.items) e c.loop-i.invariant;
      later = λ d less. absurd (omega (arith, less));
    }
