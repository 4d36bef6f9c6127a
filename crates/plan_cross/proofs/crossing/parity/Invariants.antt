-- The parity so far, with that of the segments that are left, is that of all.
use Rattle.std.proofs.Common.{◌≡◌, map, drop}
use Rattle.plan_spec.specs.Parity.{parity, xor}
use Rattle.plan_grid.specs.Spot.{spot_seen}
use Rattle.plan_cross.specs.Segment.{segment_seen}
use Rattle.plan_cross.proofs.crossing.parity.Given as goal

abbrev pub invariant-loop-segment : goal.invariant-loop-segment
invariant-loop-segment l = xor l.odd (parity (map segment_seen (drop l.segment-index l.segments)) (spot_seen l.z)) ≡ parity (map segment_seen l.segments) (spot_seen l.z)
