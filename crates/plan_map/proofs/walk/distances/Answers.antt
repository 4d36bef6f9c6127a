use Rattle.std.proofs.Common.{inl, inr, ◌<◌, length, refl, subst, arith}
use Rattle.plan_map.specs.Distances.{IsReached}
use Rattle.plan_map.specs.Search.{at}
use Rattle.plan_map.proofs.Graph.Rows.{row_of}
use Rattle.plan_map.proofs.Graph.Spreading.{starts, region_below, steps_below, goes_on, is_measured}
use Rattle.plan_map.proofs.Graph.Steps.{bounded, finished}
use Rattle.plan_map.proofs.walk.distances.Goals as goal
use Rattle.plan_map.proofs.walk.distances.Goals.{in-Some+in_ok-spread, in_default}

pub loop-head-init : goal.loop-head-init
loop-head-init c = starts c.in_ok-seen.ensures.items c.in_ok-distances.ensures c.requires.goal

pub overflow_add-steps : goal.overflow_add-steps
overflow_add-steps c = omega (arith, steps_below c.loop-head.invariant (omega (arith, c.loop-head-test.true, c.len.ensures)) c.index-region.ensures c.index.ensures c.in-Some.steps c.in-Some.is, c.requires.few)

pub spread-requires : goal.spread-requires
spread-requires c = λ n among. omega (arith, c.requires.rows.within n c.index-region.result.now among, c.loop-head.invariant.size)

pub loop-head-smaller : goal.loop-head-smaller
loop-head-smaller c =
    let less : c.loop-head.head < length c.loop-head.seen.items = omega (arith, c.loop-head-test.true, c.len.ensures) in
    omega (arith, bounded c.loop-head.invariant)

pub loop-head-preserved : goal.loop-head-preserved
loop-head-preserved c =
    let less : c.loop-head.head < length c.loop-head.seen.items = omega (arith, c.loop-head-test.true, c.len.ensures) in
    elim c.match-index.branch [
      | in-Some+in_ok-spread w ↦ rw (w.seen-is, w.distances-is) (
          goes_on c.loop-head.invariant less c.index-region.ensures c.index.ensures w.in-Some.steps w.in-Some.is
          (row_of c.requires.rows c.index-region.result.now (region_below c.loop-head.invariant less c.index-region.ensures c.index.ensures))
          (λ n step. c.requires.rows.within n c.index-region.result.now step) w.in_ok-spread.ensures.value
          )
      | in_default w ↦ absurd (is_measured c.loop-head.invariant less c.index-region.ensures c.index.ensures w.in_default.is)
    ]

pub returns-clause-value : goal.returns-clause-value
returns-clause-value c = finished c.args.until c.loop-head.invariant (inl (omega (arith, c.loop-head-test.false, c.len.ensures)))

pub returns-then-is_reached-clause-value : goal.returns-then-is_reached-clause-value
returns-then-is_reached-clause-value c =
    let reached : IsReached c.args.until (at c.loop-head.distances.items) = subst (λ ds. IsReached c.args.until (at ds)) c.deref.ensures.value (c.if-is_reached.ensures refl) in
    finished c.args.until c.loop-head.invariant (inr reached)
