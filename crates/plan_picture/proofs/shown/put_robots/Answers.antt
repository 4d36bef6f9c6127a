-- Each robot is put behind those before it.
use Rattle.std.proofs.Common.{◌++◌, ap, ◌∙◌}
use Rattle.plan_svg.specs.Shapes.{robot, shape_text}
use Rattle.plan_svg.specs.declared.class.Class.TheVariants.{Step}
use Rattle.plan_svg.proofs.Puts.{put_next, all_put, of_seen}
use Rattle.plan_picture.proofs.shown.put_robots.Goals as goal

pub loop-point-preserved : goal.loop-point-preserved
loop-point-preserved c =
    put_next (λ p. shape_text (robot Step p)) _ c.loop-point.out.items c.put_robot.new.out.items c.args.points.now c.loop-point.point-index c.point-item.result
    c.loop-point-test.true c.point-item.is c.in_ok-put_robot.ensures c.loop-point.invariant

pub returns : goal.returns
returns c =
    all_put (λ p. shape_text (robot Step p)) _ c.loop-point.out.items c.args.points.now c.loop-point.point-index c.loop-point-test.false c.loop-point.invariant
    ∙ ap (λ l. c.args.out.now.items ++ l) (of_seen shape_text (robot Step) c.args.points.now)
