-- The loop goes over the sums by number.
use Rattle.std.proofs.Common.{List, [], get_or, below_more, refl, ◌∙◌, subst, arith}
use Rattle.std.proofs.lemmas.List.{get_or_default}
use Rattle.plan_spec.specs.Vector.{Vector}
use Rattle.plan_check.specs.Boxes.{HoldsBoth}
use Rattle.plan_grid.specs.Spot.{spots_seen}
use Rattle.plan_check.proofs.Each.{untrue, some_sum, no_sum}
use Rattle.plan_check.proofs.sums.one_holds.Goals as goal

pub returns-then-holds_both : goal.returns-then-holds_both
returns-then-holds_both c =
    let P = λ (vs : List Vector). HoldsBoth c.args.p.now c.args.q.now vs in
    let i = c.loop-i.i in
    (λ e. some_sum P c.args.sums.now i c.index-sums-i.result c.loop-i-test.true (subst (λ sum. P (spots_seen sum)) c.index-sums-i.is (c.if-holds_both.ensures.0 refl)), λ h. refl)

pub loop-i-preserved : goal.loop-i-preserved
loop-i-preserved c =
    let P = λ (vs : List Vector). HoldsBoth c.args.p.now c.args.q.now vs in
    let sums = c.args.sums.now in
    let i = c.loop-i.i in
    let here = c.index-sums-i.is ∙ get_or_default sums i c.index-sums-i.result [] c.loop-i-test.true in
    below_more (λ k. ¬ (P (spots_seen (get_or sums k [])))) i c.loop-i.invariant (subst (λ sum. ¬ (P (spots_seen sum))) here (λ h. untrue (c.if-holds_both.ensures.1 h)))

pub returns : goal.returns
returns c =
    let P = λ (vs : List Vector). HoldsBoth c.args.p.now c.args.q.now vs in
    (λ e. absurd (untrue e), λ some. absurd (no_sum P c.args.sums.now (λ k within. c.loop-i.invariant k (omega arith)) some))
