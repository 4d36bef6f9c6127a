-- Each obstacle is put behind those before it.
use Rattle.std.proofs.Common.{◌++◌, map, ap, ◌∙◌}
use Rattle.plan_svg.specs.Shapes.{shape_text}
use Rattle.plan_svg.proofs.Puts.{put_next, all_put, of_seen}
use Rattle.plan_top.specs.First.{obstacle_of}
use Rattle.plan_picture.specs.Floor.{obstacle_shape}
use Rattle.plan_picture.proofs.ground.put_obstacles.Goals as goal

pub loop-obstacle-preserved : goal.loop-obstacle-preserved
loop-obstacle-preserved c =
    put_next (λ o. shape_text (obstacle_shape c.args.touched (obstacle_of o))) _ c.loop-obstacle.out.items c.put_obstacle.new.out.items c.args.obstacles.now c.loop-obstacle.obstacle-index c.obstacle-item.result
    c.loop-obstacle-test.true c.obstacle-item.is c.in_ok-put_obstacle.ensures c.loop-obstacle.invariant

pub returns : goal.returns
returns c =
    all_put (λ o. shape_text (obstacle_shape c.args.touched (obstacle_of o))) _ c.loop-obstacle.out.items c.args.obstacles.now c.loop-obstacle.obstacle-index c.loop-obstacle-test.false c.loop-obstacle.invariant
    ∙ ap (λ l. c.args.out.now.items ++ l)
    (of_seen (λ o. shape_text (obstacle_shape c.args.touched o)) obstacle_of c.args.obstacles.now ∙ of_seen shape_text (obstacle_shape c.args.touched) (map obstacle_of c.args.obstacles.now))
