-- The lower side, closed parts, the upper side, closed parts.
use Rattle.std.proofs.Common.{◌+◌, arith}
use Rattle.plan_slab.specs.Subdivision.{slabs_of, regions_of}
use Rattle.plan_ring.proofs.Outlining.{cell_added}
use Rattle.plan_ring.proofs.outline.keep_cell.Goals as goal

pub returns : goal.returns
returns c =
    let s = c.args.slabs.now in
    cell_added (slabs_of s) (regions_of s) c.args.slab c.args.at (c.args.slab + 1) (c.args.at + 1) (omega arith) (omega arith)
    c.ends-left.result.0 c.ends-left.result.1 c.ends-upper_left.result.0 c.ends-upper_left.result.1 c.ends-left.ensures.left c.ends-left.ensures.right c.ends-upper_left.ensures.left c.ends-upper_left.ensures.right
    c.args.segments.now.items c.push.new.self.items c.keep_parts.new.segments.items c.push-2.new.self.items c.keep_parts-2.new.segments.items c.side.result c.side-2.result
    c.in_ok-push.ensures.items c.side.ensures c.in_ok-keep_parts.ensures c.in_ok-push-2.ensures.items c.side-2.ensures c.in_ok-keep_parts-2.ensures
