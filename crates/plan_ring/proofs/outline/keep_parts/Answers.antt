-- Part by part.
use Rattle.std.proofs.Common.{arith}
use Rattle.plan_slab.specs.Subdivision.{slabs_of, regions_of}
use Rattle.plan_ring.proofs.Outlining.{next_part}
use Rattle.plan_ring.proofs.outline.keep_parts.Goals as goal

pub loop-at-preserved : goal.loop-at-preserved
loop-at-preserved c =
    let s = c.args.slabs.now in
    next_part (slabs_of s) (regions_of s) c.args.line c.args.from c.args.to c.args.segments.now.items c.loop-at.at c.loop-at.segments.items c.keep_part.new.segments.items (omega (arith, c.loop-at-test.true)) c.loop-at.invariant c.in_ok-keep_part.ensures
