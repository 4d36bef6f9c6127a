use Rattle.std.proofs.Common.{◌≡◌, ◌<◌, length, vec_len, arith}
use Rattle.plan_map.proofs.Graph.Rows.{row_of}
use Rattle.plan_map.proofs.Graph.Floods.{region_seen, flows_on, never_more, poured}
use Rattle.plan_map.proofs.labels.flood.Goals as goal

pub loop-head-init : goal.loop-head-init
loop-head-init c =
    let long : vec_len c.args.seen.now ≡ length c.args.seen.now.items = search in
    let e : c.len-head.result ≡ length c.args.seen.now.items = omega (arith, c.len-head.ensures, long) in
    rw e (poured c.requires.before c.requires.region c.in_ok-visit.ensures.value)

pub spread-requires : goal.spread-requires
spread-requires c = λ n among. omega (arith, c.requires.rows.within n c.index-here.result.now among, c.loop-head.invariant.flood.size)

pub loop-head-smaller : goal.loop-head-smaller
loop-head-smaller c =
    let less : c.loop-head.head < length c.loop-head.seen.items = omega (arith, c.loop-head-test.true, c.len.ensures) in
    omega (arith, never_more c.loop-head.invariant.flood)

pub loop-head-preserved : goal.loop-head-preserved
loop-head-preserved c =
    let less : c.loop-head.head < length c.loop-head.seen.items = omega (arith, c.loop-head-test.true, c.len.ensures) in
    let here = c.index-here.result.now in
    flows_on c.loop-head.invariant less c.index-here.ensures (row_of c.requires.rows here (region_seen c.loop-head.invariant.flood less c.index-here.ensures)) c.requires.rows.both_ways
    (λ n step. c.requires.rows.within n here step) c.in_ok-spread.ensures.value
