-- The box that is made larger for the next spot is the box with it.
use Rattle.plan_convex.proofs.BoxOfSpots.{first_box, next_box, whole_box}
use Rattle.plan_convex.proofs.boxes.bounds.Goals as goal

pub loop-spot-init : goal.loop-spot-init
loop-spot-init c = first_box c.args.spots.now c.requires

pub loop-spot-preserved : goal.loop-spot-preserved
loop-spot-preserved c =
    rw (c.least-low.ensures, c.greatest-high.ensures) (next_box c.args.spots.now c.loop-spot.spot-index c.loop-spot.low c.loop-spot.high c.loop-spot-test.true c.loop-spot.invariant)

pub returns : goal.returns
returns c =
    whole_box c.args.spots.now c.loop-spot.spot-index (record { low = c.loop-spot.low; high = c.loop-spot.high }) c.loop-spot-test.false c.loop-spot.invariant
