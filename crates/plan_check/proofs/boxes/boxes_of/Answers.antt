-- Each sum's box is put behind the others.
use Rattle.std.proofs.Common.{◌+◌, All, sym, subst, arith}
use Rattle.plan_convex.specs.Boxes.{Encloses}
use Rattle.plan_check.proofs.Boxed.{AreBoxesUpTo, one_more, all_boxes}
use Rattle.plan_check.proofs.boxes.boxes_of.Goals as goal

pub loop-sum-preserved : goal.loop-sum-preserved
loop-sum-preserved c =
    let i = c.loop-sum.sum-index in
    subst (AreBoxesUpTo c.args.sums.now (i + 1)) (sym c.in_ok-push.ensures.items)
    (one_more c.args.sums.now i c.loop-sum.boxes.items c.sum-item.result c.bounds.result c.loop-sum-test.true c.sum-item.is (subst (All (Encloses c.bounds.result)) c.spots.ensures.value c.bounds.ensures.encloses) c.loop-sum.invariant)

pub returns : goal.returns
returns c = all_boxes c.args.sums.now c.loop-sum.sum-index c.loop-sum.boxes.items (omega (arith, c.loop-sum-test.false, c.loop-sum.auto.sum-index-end)) c.loop-sum.invariant
