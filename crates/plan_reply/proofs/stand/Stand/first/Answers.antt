-- The whole scene is too large where its stand is refused for that.
use Rattle.plan_reply.proofs.stand.Stand.first.Goals as goal

pub returns-in-Err-TooManyRegions : goal.returns-in-Err-TooManyRegions
returns-in-Err-TooManyRegions g c = (c.in_ok-scene.scene, c.in_ok-scene.ensures, c.in-Err-TooManyRegions.ensures.many c.in-Err-TooManyRegions.field-0-is)
