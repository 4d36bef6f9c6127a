-- Each segment is put behind those before it.
use Rattle.plan_cross.specs.Segment.{segment_seen}
use Rattle.plan_svg.specs.Shapes.{stroke_text}
use Rattle.plan_svg.proofs.Puts.{put_next, all_put}
use Rattle.plan_svg.proofs.place.put_strokes.Goals as goal

pub loop-segment-preserved : goal.loop-segment-preserved
loop-segment-preserved c =
    put_next (λ s. stroke_text (segment_seen s)) _ c.loop-segment.out.items c.put_stroke.new.out.items c.args.segments.now c.loop-segment.segment-index c.segment-item.result
    c.loop-segment-test.true c.segment-item.is c.in_ok-put_stroke.ensures c.loop-segment.invariant

pub returns : goal.returns
returns c = all_put (λ s. stroke_text (segment_seen s)) _ c.loop-segment.out.items c.args.segments.now c.loop-segment.segment-index c.loop-segment-test.false c.loop-segment.invariant
