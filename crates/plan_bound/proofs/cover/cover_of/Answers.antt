-- One sum more covers what it covers itself.
use Rattle.std.proofs.Common.{◌≡◌, ◌∙◌, sym, subst, get_or, List, [], Decides, arith}
use Rattle.std.proofs.lemmas.List.{get_or_default}
use Rattle.plan_exact.proofs.Laws.{linear}
use Rattle.plan_spec.specs.Boundary.{StrictlyInside}
use Rattle.plan_grid.specs.declared.spot.Spot.{Spot}
use Rattle.plan_convex.specs.Span.{IsOutside}
use Rattle.plan_bound.specs.Cover.{IsCoverOf}
use Rattle.plan_grid.specs.Spot.{spot_seen, spots_seen}
use Rattle.plan_bound.proofs.Covering.{outside_so_far, covered_so_far, so_far_all}
use Rattle.plan_bound.proofs.cover.cover_of.Goals as goal
use Rattle.plan_bound.proofs.cover.cover_of.Goals.{in-Some+in_ok-push, in_default}

pub loop-i-preserved : goal.loop-i-preserved
loop-i-preserved c =
    let sums = c.args.sums.now in
    let at : (u : List Spot) → u ≡ get_or sums c.loop-i.i u → u ≡ get_or sums c.loop-i.i [] = λ u e. e ∙ sym (get_or_default sums c.loop-i.i [] u c.loop-i-test.true) in
    elim c.match-covered.branch [
      | in-Some+in_ok-push w ↦
          let cover = subst (λ l. IsCoverOf (spot_seen c.args.a) (spot_seen c.args.b) (spots_seen l) w.in-Some.part) (at c.index-sums-i.result c.index-sums-i.is) w.in-Some.ensures in
          let first = subst (λ l. Decides w.covers-first.result (StrictlyInside (spots_seen l) (spot_seen c.args.a))) (at w.index-sums-i-in-Some.result w.index-sums-i-in-Some.is) w.covers-first.ensures in
          let last = subst (λ l. Decides w.covers-last.result (StrictlyInside (spots_seen l) (spot_seen c.args.b))) (at w.index-sums-i-in-Some-2.result w.index-sums-i-in-Some-2.is) w.covers-last.ensures in
          rw (w.parts-is, w.first-is, w.last-is, w.in_ok-push.ensures.items)
          (covered_so_far sums (spot_seen c.args.a) (spot_seen c.args.b) c.loop-i.i c.loop-i.parts.items w.in-Some.part c.loop-i.first c.loop-i.last w.covers-first.result w.covers-last.result c.loop-i.invariant cover first last)
      | in_default w ↦
          rw (w.parts-is, w.first-is, w.last-is)
          (outside_so_far sums (spot_seen c.args.a) (spot_seen c.args.b) c.loop-i.i c.loop-i.parts.items c.loop-i.first c.loop-i.last (omega (arith, linear)) (omega (arith, linear)) c.loop-i.invariant (subst (λ l. IsOutside (spot_seen c.args.a) (spot_seen c.args.b) (spots_seen l)) (at c.index-sums-i.result c.index-sums-i.is) w.in_default.ensures))
    ]

pub returns-clause-parts : goal.returns-clause-parts
returns-clause-parts c = (so_far_all c.args.sums.now (spot_seen c.args.a) (spot_seen c.args.b) c.loop-i.i c.loop-i.parts.items c.loop-i.first c.loop-i.last (omega (arith, c.loop-i-test.false)) c.loop-i.invariant).0

pub returns-clause-first : goal.returns-clause-first
returns-clause-first c = (so_far_all c.args.sums.now (spot_seen c.args.a) (spot_seen c.args.b) c.loop-i.i c.loop-i.parts.items c.loop-i.first c.loop-i.last (omega (arith, c.loop-i-test.false)) c.loop-i.invariant).1

pub returns-clause-last : goal.returns-clause-last
returns-clause-last c = (so_far_all c.args.sums.now (spot_seen c.args.a) (spot_seen c.args.b) c.loop-i.i c.loop-i.parts.items c.loop-i.first c.loop-i.last (omega (arith, c.loop-i-test.false)) c.loop-i.invariant).2
