-- The copies so far are those of the obstacles so far.
use Rattle.std.proofs.Common.{◌≡◌, map, take}
use Rattle.plan_top.specs.First.{obstacle_of}
use Rattle.plan_picture.proofs.floor.copies.Given as goal

abbrev pub invariant-loop-obstacle : goal.invariant-loop-obstacle
invariant-loop-obstacle l = map obstacle_of l.copies.items ≡ map obstacle_of (take l.obstacle-index l.obstacles)
