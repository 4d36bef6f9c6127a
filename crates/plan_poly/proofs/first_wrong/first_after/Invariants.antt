-- No edge so far meets edge i wrongly.
use Rattle.plan_grid.specs.Spot.{spots_seen}
use Rattle.plan_poly.specs.FirstWrong.{MeetsNoneBelow}
use Rattle.plan_poly.proofs.first_wrong.first_after.Given as goal

abbrev pub invariant-loop-j : goal.invariant-loop-j
invariant-loop-j l = MeetsNoneBelow (spots_seen l.spots) l.fn.i l.j
