-- What was put so far stands before the texts of what is left.
use Rattle.std.proofs.Common.{◌≡◌, ◌++◌, drop}
use Rattle.std.specs.List.{flat_map}
use Rattle.plan_cross.specs.Segment.{segment_seen}
use Rattle.plan_svg.specs.Shapes.{stroke_text}
use Rattle.plan_svg.proofs.place.put_strokes.Given as goal

abbrev pub invariant-loop-segment : goal.invariant-loop-segment
invariant-loop-segment l = l.out.items ++ flat_map (λ s. stroke_text (segment_seen s)) (drop l.segment-index l.segments) ≡ l.initial.out.items ++ flat_map (λ s. stroke_text (segment_seen s)) l.segments
