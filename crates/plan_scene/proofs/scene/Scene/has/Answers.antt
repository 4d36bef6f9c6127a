-- The loop leaves at the first obstacle with the id, and has passed them all where there is none.
use Rattle.std.proofs.Common.{◌≡◌, get_or, Any, below_more, refl, sym, ap, ◌∙◌, subst, arith}
use Rattle.std.proofs.lemmas.List.{get_or_default}
use Rattle.plan_scene.specs.Scene.{Obstacle}
use Rattle.plan_scene.proofs.Past.{untrue}
use Rattle.plan_scene.proofs.scene.Scene.has.Goals as goal

pub loop-obstacle-init : goal.loop-obstacle-init
loop-obstacle-init c k below d = absurd (omega arith)

pub returns-then-id : goal.returns-then-id
returns-then-id c = (
  λ e. subst (Any (λ o. o.id ≡ c.args.id)) (c.deref-obstacle-items.ensures.value ∙ ap (λ s. s.obstacles) c.self.view_is)
      (c.loop-obstacle.obstacle-index, c.obstacle-item.result, c.loop-obstacle-test.true, sym c.obstacle-item.is, sym c.id.ensures ∙ c.if-id.true),
  λ h. refl,
)

pub loop-obstacle-preserved : goal.loop-obstacle-preserved
loop-obstacle-preserved c =
    let os = c.deref-obstacle-items.result.now in
    below_more (λ k. (d : Obstacle) → ¬ ((get_or os k d).id ≡ c.args.id)) c.loop-obstacle.obstacle-index c.loop-obstacle.invariant
    (λ d e. c.if-id.false (c.id.ensures ∙ ap (λ o. o.id) (c.obstacle-item.is ∙ get_or_default os c.loop-obstacle.obstacle-index c.obstacle-item.result d c.loop-obstacle-test.true) ∙ e))

pub returns : goal.returns
returns c = (
  λ e. absurd (untrue e),
  λ h. absurd (let all : c.args.self.now.obstacles ≡ c.deref-obstacle-items.result.now = sym (ap (λ s. s.obstacles) c.self.view_is) ∙ sym c.deref-obstacle-items.ensures.value in
      let (k, o, within, is, e) = subst (Any (λ o. o.id ≡ c.args.id)) all h in
      c.loop-obstacle.invariant k (omega (arith, within)) o (ap (λ o. o.id) is ∙ e)),
)
