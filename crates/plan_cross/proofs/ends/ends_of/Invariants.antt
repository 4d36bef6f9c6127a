-- The ends found so far, followed by those of the segments that are left, are all.
use Rattle.std.proofs.Common.{◌≡◌, ◌++◌, All, map, drop}
use Rattle.plan_spec.specs.Vector.{IsPoint}
use Rattle.plan_cross.specs.Segment.{segment_seen}
use Rattle.plan_cross.specs.Ends.{ends}
use Rattle.plan_cross.proofs.ends.ends_of.Given as goal

abbrev pub invariant-loop-segment : goal.invariant-loop-segment
invariant-loop-segment l = record {
  value : l.found.items ++ ends (map segment_seen (drop l.segment-index l.segments)) ≡ ends (map segment_seen l.segments);
  points : All IsPoint l.found.items;
}
