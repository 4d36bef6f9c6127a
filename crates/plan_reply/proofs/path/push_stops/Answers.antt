-- One spot more, and all in the end.
use Rattle.std.proofs.Common.{ℕ, ◌+◌, ◌<◌, map, take, length, sym, subst, arith}
use Rattle.plan_spec.specs.Vector.{Vector}
use Rattle.plan_spec.specs.Regions.{region_at, spot_of}
use Rattle.plan_slab.specs.Subdivision.{slabs_of, regions_of}
use Rattle.plan_reply.specs.Path.{AreLonger}
use Rattle.plan_reply.proofs.Longer.{longer_more}
use Rattle.plan_reply.proofs.path.push_stops.Goals as goal

pub loop-number-preserved : goal.loop-number-preserved
loop-number-preserved c =
    let s = c.args.map.now in
    let f : ℕ → Vector = λ n. spot_of (slabs_of s) (region_at (regions_of s) n) in
    let ns = c.args.regions.now in
    let i = c.loop-number.number-index in
    let within : i < length ns = omega (arith, c.loop-number-test.true) in
    subst (AreLonger (map f (take (i + 1) ns)) c.args.points.now.items) (sym c.in_ok-push.ensures.items)
    (longer_more f ns i 0 c.args.points.now.items c.loop-number.points.items c.spot_of.result within c.loop-number.invariant c.spot_of.ensures.same c.spot_of.ensures.in_range)
