-- The obstacles of greater ids among those so far are put behind.
use Rattle.std.proofs.Common.{◌≡◌, ◌++◌, take}
use Rattle.std.specs.List.{filter}
use Rattle.plan_scene.specs.Scene.{is_greater}
use Rattle.plan_scene.proofs.obstacle.push_greater.Given as goal

abbrev pub invariant-loop-obstacle : goal.invariant-loop-obstacle
invariant-loop-obstacle l = l.list.items ≡ l.fn.list.items ++ filter (is_greater l.id) (take l.obstacle-index l.obstacles)
