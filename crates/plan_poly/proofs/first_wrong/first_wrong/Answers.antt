-- The first edge that some later one meets wrongly, with the first such later one, is the first pair.
use Rattle.std.proofs.Common.{ℕ, ◌<◌, ⊎_elim, below_more, sym, subst, arith}
use Rattle.plan_spec.specs.SimplePolygon.{MeetWrongly}
use Rattle.plan_grid.specs.Spot.{spots_seen}
use Rattle.plan_poly.specs.FirstWrong.{MeetsNone}
use Rattle.plan_poly.proofs.Spots.{count_seen}
use Rattle.plan_poly.proofs.first_wrong.first_wrong.Goals as goal

pub returns-in-Some : goal.returns-in-Some
returns-in-Some c =
    let found = c.in-Some.ensures in
    record {
      ordered = found.ordered;
      within = found.within;
      wrong = found.wrong;
      first = λ k l less within earlier. ⊎_elim (λ before. c.loop-i.invariant k before l less within) (λ (e, before). subst (λ (k : ℕ). ¬ (MeetWrongly (spots_seen c.args.spots.now) k l)) (sym e) (found.first l (subst (λ (k : ℕ). k < l) e less) before)) earlier;
    }

pub loop-i-preserved : goal.loop-i-preserved
loop-i-preserved c = below_more (λ k. MeetsNone (spots_seen c.args.spots.now) k) c.loop-i.i c.loop-i.invariant c.in_default.ensures

pub returns : goal.returns
returns c i j less within =
    let past = c.loop-i-test.false in
    c.loop-i.invariant i (omega (arith, less, within, count_seen c.args.spots.now)) j less within
