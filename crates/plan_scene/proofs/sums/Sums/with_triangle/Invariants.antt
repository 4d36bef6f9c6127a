-- The sums with the triangles of the robot so far are put behind.
use Rattle.std.proofs.Common.{take, map}
use Rattle.plan_spec.specs.Sums.{part}
use Rattle.plan_tri.specs.Triangle.{triangle_seen, triangles_seen}
use Rattle.plan_scene.specs.Built.{Adds}
use Rattle.plan_scene.proofs.sums.Sums.with_triangle.Given as goal

abbrev pub invariant-loop-part : goal.invariant-loop-part
invariant-loop-part l = Adds (map (part l.id (triangle_seen l.piece)) (triangles_seen (take l.part-index l.robot))) l.fn.self l.sums
