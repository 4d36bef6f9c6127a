-- The sums with the obstacle's triangles so far are put behind.
use Rattle.std.proofs.Common.{take}
use Rattle.plan_spec.specs.Sums.{parts_of}
use Rattle.plan_tri.specs.Triangle.{triangles_seen}
use Rattle.plan_scene.specs.Built.{Adds}
use Rattle.plan_scene.proofs.sums.Sums.with_obstacle.Given as goal

abbrev pub invariant-loop-piece : goal.invariant-loop-piece
invariant-loop-piece l = Adds (parts_of (triangles_seen l.robot) l.id (triangles_seen (take l.piece-index l.pieces))) l.fn.self l.sums
