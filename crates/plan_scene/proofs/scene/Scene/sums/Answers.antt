-- The sums that are kept are those of the scene.
use Rattle.std.proofs.Common.{sym, subst, ap, length, ◌∙◌, arith}
use Rattle.plan_spec.specs.Sums.{AreSums}
use Rattle.plan_convex.specs.Piece.{sums_seen}
use Rattle.plan_scene.specs.Scene.{scene_seen}
use Rattle.plan_scene.specs.Built.{IsKept}
use Rattle.plan_scene.proofs.Kept.{are_sums, count}
use Rattle.plan_scene.proofs.scene.Scene.sums.Goals as goal
use Rattle.plan_scene.proofs.scene.Scene.sums.Goals.{After-deref}

kept : (c : After-deref) → IsKept c.args.self.now c.self.inside.room c.self.inside.sums
kept c = subst (λ s. IsKept s c.self.inside.room c.self.inside.sums) c.self.view_is c.self.invariant

pub returns-clause-sums : goal.returns-clause-sums
returns-clause-sums c =
    subst (λ l. AreSums (scene_seen c.args.self.now) (sums_seen l)) (sym c.deref.ensures.value) (are_sums c.args.self.now c.self.inside.room c.self.inside.sums (kept c))

pub returns-clause-count : goal.returns-clause-count
returns-clause-count c = ap length c.deref.ensures.value ∙ count c.args.self.now c.self.inside.room c.self.inside.sums (kept c)

pub returns-clause-few : goal.returns-clause-few
returns-clause-few c = omega (arith, returns-clause-count c, (kept c).is_scene.few_sums)
