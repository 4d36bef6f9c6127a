-- The lesser ones, the added one, and the greater ones.
use Rattle.std.proofs.Common.{[], ◌∷◌, append_assoc}
use Rattle.std.specs.List.{filter}
use Rattle.plan_scene.specs.Scene.{is_lesser, is_greater}
use Rattle.plan_scene.proofs.obstacle.with_added.Goals as goal

pub returns : goal.returns
returns c =
    rw (c.in_ok-push_greater.ensures, c.in_ok-push.ensures.items, c.in_ok-push_lesser.ensures, c.in_ok-list.ensures.items, c.id-id.ensures)
    (append_assoc (filter (is_lesser c.args.added.id) c.args.obstacles.now) (c.args.added ∷ []) (filter (is_greater c.args.added.id) c.args.obstacles.now))
