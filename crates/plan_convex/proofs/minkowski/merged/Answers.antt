-- Each step of the loop is a step of the merge, and a merge with no edge left is the polygon of the sum.
use Rattle.std.proofs.Common.{◌≡◌, [], ◌∷◌, ◌++◌, arith, sym, ap, ◌∙◌, subst}
use Rattle.plan_convex.proofs.Merge.{IsMerge, vertex, merge_start}
use Rattle.plan_convex.proofs.MergeStep.{merge_step, first_may_go, second_may_go}
use Rattle.plan_convex.proofs.MergeEnd.{merge_end}
use Rattle.plan_convex.proofs.minkowski.merged.Goals as goal

pub loop-a-init : goal.loop-a-init
loop-a-init c = subst (IsMerge c.args.a c.args.b c.args.a c.args.b) (sym c.new-vertices.ensures) (merge_start c.args.a c.args.b c.requires.a c.requires.b)

pub step-requires-clause-a_left : goal.step-requires-clause-a_left
step-requires-clause-a_left c = first_may_go c.args.a c.args.b c.loop-a.a c.loop-a.b c.loop-a.vertices c.loop-a.invariant c.loop-a-test.true

pub step-requires-clause-b_left : goal.step-requires-clause-b_left
step-requires-clause-b_left c = second_may_go c.args.a c.args.b c.loop-a.a c.loop-a.b c.loop-a.vertices c.loop-a.invariant c.loop-a-test.true

pub loop-a-preserved : goal.loop-a-preserved
loop-a-preserved c =
    let l = c.loop-a in
    let pushed : c.push.new.self ≡ l.vertices ++ vertex l.a l.b ∷ [] = c.push.ensures ∙ ap (λ v. l.vertices ++ v ∷ []) c.plus.ensures in
    subst (IsMerge c.args.a c.args.b c.step.result.0 c.step.result.1) (sym pushed)
    (merge_step c.args.a c.args.b l.a l.b c.step.result.0 c.step.result.1 l.vertices l.invariant c.step.ensures)

pub of-requires : goal.of-requires
of-requires c =
    let l = c.loop-a in
    (merge_end c.args.a c.args.b l.a l.b l.vertices c.requires.a c.requires.b l.invariant (omega (arith, c.loop-a-test.false))).polygon

pub returns : goal.returns
returns c =
    let l = c.loop-a in
    let sums = merge_end c.args.a c.args.b l.a l.b l.vertices c.requires.a c.requires.b l.invariant (omega (arith, c.loop-a-test.false)) in
    rw c.of.ensures sums.holds
