-- The next obstacle's sums are put behind those of the obstacles before it.
use Rattle.std.proofs.Common.{take, take_all, subst, ap, ◌∙◌}
use Rattle.plan_tri.specs.Triangle.{triangles_seen}
use Rattle.plan_scene.specs.Shape.{triangles_of}
use Rattle.plan_scene.specs.Built.{AreSumsOf, parts_by}
use Rattle.plan_scene.proofs.Kept.{none_yet, next_obstacle}
use Rattle.plan_scene.proofs.sums.Sums.of.Goals as goal

pub loop-obstacle-init : goal.loop-obstacle-init
loop-obstacle-init c = none_yet _ c.new.ensures.items c.new-2.ensures.items c.new-3.ensures.items

pub loop-obstacle-preserved : goal.loop-obstacle-preserved
loop-obstacle-preserved c =
    let rs = triangles_seen c.args.robot.now in
    next_obstacle rs c.args.obstacles.now c.loop-obstacle.obstacle-index c.obstacle-item.result c.id.result (triangles_seen c.triangles.result.now) c.in_ok-sums.sums c.loop-obstacle-test.true c.obstacle-item.is c.id.ensures
    (c.triangles.ensures.value ∙ ap triangles_of c.shape.ensures) (c.in_ok-sums.ensures (parts_by rs (take c.loop-obstacle.obstacle-index c.args.obstacles.now)) c.loop-obstacle.invariant)

pub returns : goal.returns
returns c = subst (λ l. AreSumsOf (parts_by (triangles_seen c.args.robot.now) l) c.loop-obstacle.sums) (take_all c.loop-obstacle.obstacle-index c.args.obstacles.now c.loop-obstacle-test.false) c.loop-obstacle.invariant
