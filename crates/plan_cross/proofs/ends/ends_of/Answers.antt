-- Each segment adds its two ends.
use Rattle.std.proofs.Common.{◌∙◌}
use Rattle.plan_cross.proofs.Found.{two_more, all_two_more}
use Rattle.plan_cross.proofs.ends.ends_of.Goals as goal

pub loop-segment-preserved : goal.loop-segment-preserved
loop-segment-preserved c =
    let found = c.loop-segment.found.items in
    let s = c.segment-item.result in
    let more = c.in_ok-push_ends.ensures in
    rw more.value (record {
      value = two_more found s c.args.segments.now c.loop-segment.segment-index c.loop-segment-test.true c.segment-item.is ∙ c.loop-segment.invariant.value;
      points = all_two_more found s.a s.b c.loop-segment.invariant.points more.points.0 more.points.1;
    })
