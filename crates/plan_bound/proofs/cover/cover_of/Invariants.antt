-- What the sums so far cover.
use Rattle.plan_grid.specs.Spot.{spot_seen}
use Rattle.plan_bound.proofs.Covering.{CoverSoFar}
use Rattle.plan_bound.proofs.cover.cover_of.Given as goal

abbrev pub invariant-loop-i : goal.invariant-loop-i
invariant-loop-i l = CoverSoFar l.sums (spot_seen l.a) (spot_seen l.b) l.i l.parts.items l.first l.last
