-- One more sum has one more box.
use Rattle.plan_slab.proofs.Boxes.{box_more}
use Rattle.plan_slab.proofs.near.boxes_of.Goals as goal

pub loop-sum-preserved : goal.loop-sum-preserved
loop-sum-preserved c =
    let spots = c.spots-spots.ensures in
    rw c.in_ok-push.ensures.items
    (box_more c.args.sums.now c.loop-sum.boxes.items c.loop-sum.sum-index c.sum-item.result c.bounds.result c.loop-sum-test.true c.sum-item.is c.loop-sum.invariant (record { at_least_three = spots.at_least_three; at_most_six = spots.at_most_six; convex = spots.convex; bounded = spots.bounded }) (rw spots.value at c.bounds.ensures))
