-- The sums so far are those of the obstacles so far.
use Rattle.std.proofs.Common.{take}
use Rattle.plan_tri.specs.Triangle.{triangles_seen}
use Rattle.plan_scene.specs.Built.{AreSumsOf, parts_by}
use Rattle.plan_scene.proofs.sums.Sums.of.Given as goal

abbrev pub invariant-loop-obstacle : goal.invariant-loop-obstacle
invariant-loop-obstacle l = AreSumsOf (parts_by (triangles_seen l.robot) (take l.obstacle-index l.obstacles)) l.sums
