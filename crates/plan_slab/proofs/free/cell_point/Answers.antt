-- Both feet are at the x of x.
use Rattle.std.proofs.Common.{sym}
use Rattle.plan_slab.specs.Seen.{strand_seen}
use Rattle.plan_spec.specs.Regions.{foot}
use Rattle.plan_slab.proofs.FreeLots.{halfway_same_x}
use Rattle.plan_slab.proofs.Order.Feet.{foot_same_x}
use Rattle.plan_slab.proofs.free.cell_point.Goals as goal

pub returns-clause-same_x : goal.returns-clause-same_x
returns-clause-same_x c =
    let x = c.args.x in
    let s = strand_seen c.args.low in
    let t = strand_seen c.args.high in
    rw (c.halfway.ensures.value, c.foot.ensures.value, c.foot-2.ensures.value) (halfway_same_x x (foot s x) (foot t x) (sym (foot_same_x s x)) (sym (foot_same_x t x)))
