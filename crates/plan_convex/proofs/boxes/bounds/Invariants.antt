-- The box of the spots so far, and of the first.
use Rattle.plan_convex.proofs.BoxOfSpots.{IsBoxBefore}
use Rattle.plan_convex.proofs.boxes.bounds.Given as goal

abbrev pub invariant-loop-spot : goal.invariant-loop-spot
invariant-loop-spot l = IsBoxBefore l.spots l.spot-index (record { low = l.low; high = l.high })
