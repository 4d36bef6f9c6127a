-- No obstacle so far has the id.
use Rattle.std.proofs.Common.{◌≡◌, ℕ, ◌<◌, get_or}
use Rattle.plan_scene.specs.Scene.{Obstacle}
use Rattle.plan_scene.proofs.scene.Scene.has.Given as goal

abbrev pub invariant-loop-obstacle : goal.invariant-loop-obstacle
invariant-loop-obstacle l = (k : ℕ) → k < l.obstacle-index → (d : Obstacle) → ¬ ((get_or l.obstacle-items k d).id ≡ l.id)
