-- The scene without the obstacle is a scene.
use Rattle.std.proofs.Common.{◌≡◌, sym, ap, subst, ◌∙◌}
use Rattle.plan_scene.specs.Scene.{without, with_obstacles, IsScene}
use Rattle.plan_scene.specs.Built.{IsKept}
use Rattle.plan_scene.proofs.Edited.{without_is_scene}
use Rattle.plan_scene.proofs.scene.Scene.without_obstacle.Goals as goal

pub with_obstacles-requires : goal.with_obstacles-requires
with_obstacles-requires c =
    let k = subst (λ s. IsKept s c.self.inside.room c.self.inside.sums) c.self.view_is c.self.invariant in
    let here : c.deref.result.now ≡ c.args.self.now.obstacles = c.deref.ensures.value ∙ ap (λ s. s.obstacles) c.self.view_is in
    subst (λ l. IsScene (with_obstacles c.args.self.now l)) (sym (c.in_ok-obstacles.ensures ∙ ap (without c.args.id) here)) (without_is_scene c.args.self.now c.args.id k.is_scene)
