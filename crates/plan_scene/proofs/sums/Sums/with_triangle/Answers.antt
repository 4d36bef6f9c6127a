-- The next sum is that of the part with the next triangle of the robot.
use Rattle.std.proofs.Common.{map, take_all, subst, refl}
use Rattle.plan_spec.specs.Sums.{part}
use Rattle.plan_grid.proofs.Spots.{origin}
use Rattle.plan_tri.specs.Triangle.{triangle_seen, triangles_seen}
use Rattle.plan_scene.specs.Built.{Adds}
use Rattle.plan_scene.proofs.Building.{adds_none, mapped_step}
use Rattle.plan_scene.proofs.sums.Sums.with_triangle.Goals as goal

pub loop-part-init : goal.loop-part-init
loop-part-init c = adds_none c.args.self

pub loop-part-preserved : goal.loop-part-preserved
loop-part-preserved c =
    mapped_step (part c.args.id (triangle_seen c.args.piece)) triangle_seen c.args.robot.now c.loop-part.part-index (record { a = origin; b = origin; c = origin }) c.args.self c.loop-part.sums c.in_ok-sums.sums c.loop-part-test.true c.loop-part.invariant
    (c.in_ok-sums.ensures _ refl c.sum-next.ensures.meaning)

pub returns : goal.returns
returns c = subst (λ l. Adds (map (part c.args.id (triangle_seen c.args.piece)) (triangles_seen l)) c.args.self c.loop-part.sums) (take_all c.loop-part.part-index c.args.robot.now c.loop-part-test.false) c.loop-part.invariant
