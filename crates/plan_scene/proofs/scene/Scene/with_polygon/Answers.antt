-- The scene with the obstacle is a scene.
use Rattle.std.proofs.Common.{◌≡◌, sym, ap, ap₂, subst, ◌∙◌}
use Rattle.plan_scene.specs.Scene.{obstacle, with_obstacle, with_obstacles, IsScene}
use Rattle.plan_scene.specs.Built.{IsKept}
use Rattle.plan_scene.proofs.Edited.{with_is_scene}
use Rattle.plan_scene.proofs.scene.Scene.with_polygon.Goals as goal

pub with_obstacles-requires : goal.with_obstacles-requires
with_obstacles-requires c =
    let k = subst (λ s. IsKept s c.self.inside.room c.self.inside.sums) c.self.view_is c.self.invariant in
    let here : c.deref.result.now ≡ c.args.self.now.obstacles = c.deref.ensures.value ∙ ap (λ s. s.obstacles) c.self.view_is in
    let made : c.in_ok-obstacles.obstacles.items ≡ with_obstacle (obstacle c.args.id c.args.polygon) c.args.self.now.obstacles =
    c.in_ok-obstacles.ensures ∙ ap₂ with_obstacle (c.in_ok-added.ensures ∙ ap (obstacle c.args.id) c.in_ok-shape.ensures) here in
    subst (λ l. IsScene (with_obstacles c.args.self.now l)) (sym made) (with_is_scene c.args.self.now c.args.id k.is_scene c.args.polygon c.requires.id c.requires.polygon c.requires.few c.requires.few_sums)
