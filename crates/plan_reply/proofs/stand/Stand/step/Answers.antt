-- The edited scene is too large where its stand is refused for that.
use Rattle.std.proofs.Common.{subst}
use Rattle.plan_scene.specs.Edits.{IsEdited}
use Rattle.plan_reply.proofs.stand.Stand.step.Goals as goal

pub returns-in-Err-TooManyRegions : goal.returns-in-Err-TooManyRegions
returns-in-Err-TooManyRegions g c = (c.in_ok-scene.scene, subst (λ s. IsEdited s c.args.edit.now c.in_ok-scene.scene) c.self.view_is c.in_ok-scene.ensures, c.in-Err-TooManyRegions.ensures.many c.in-Err-TooManyRegions.field-0-is)
