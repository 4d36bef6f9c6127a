-- z is on none of the edges so far, and under an odd number of them where `odd` says so.
use Rattle.plan_spec.specs.Polygon.{edges}
use Rattle.plan_grid.specs.Spot.{spots_seen}
use Rattle.plan_poly.proofs.EvenOdd.Walk.{Walked}
use Rattle.plan_poly.proofs.polygon.Polygon.holds.Given as goal

abbrev pub invariant-loop-i : goal.invariant-loop-i
invariant-loop-i l = Walked (edges (spots_seen l.spots)) l.i l.odd l.z
