-- The lesser ones, then the greater ones.
use Rattle.std.proofs.Common.{refl}
use Rattle.plan_scene.proofs.obstacle.without_id.Goals as goal

pub returns : goal.returns
returns c = rw (c.in_ok-push_greater.ensures, c.in_ok-push_lesser.ensures, c.in_ok-list.ensures.items) refl
