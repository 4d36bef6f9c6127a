-- A segment of points as a segment of the plane.
use Rattle.plan_spec.specs.Segment as spec
use Rattle.plan_cross.specs.declared.segment.Segment.{Segment}

abbrev pub segment_seen : Segment → spec.Segment
segment_seen s = spec.segment s.a s.b
