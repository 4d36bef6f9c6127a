-- One more sum has one more box.
use Rattle.std.proofs.Common.{subst, take_all}
use Rattle.plan_bound.specs.Cover.{AreBoxes}
use Rattle.plan_bound.proofs.BoxOfEach.{no_boxes, box_more}
use Rattle.plan_bound.proofs.boxes.boxes_of.Goals as goal

pub loop-sum-init : goal.loop-sum-init
loop-sum-init c = rw c.new-boxes.ensures.items no_boxes

pub loop-sum-preserved : goal.loop-sum-preserved
loop-sum-preserved c =
    rw c.in_ok-push.ensures.items
    (box_more c.args.sums.now c.loop-sum.boxes.items c.loop-sum.sum-index c.sum-item.result c.bounds.result c.loop-sum-test.true c.sum-item.is c.loop-sum.invariant (rw c.spots-spots.ensures.value at c.bounds.ensures.encloses))

pub returns : goal.returns
returns c = subst (λ sums. AreBoxes sums c.loop-sum.boxes.items) (take_all c.loop-sum.sum-index c.args.sums.now c.loop-sum-test.false) c.loop-sum.invariant
