-- The robot has as many vertices as were given; the scenes are made of it alone.
use Rattle.std.proofs.Common.{arith}
use Rattle.plan_scene.proofs.Read.{same_count}
use Rattle.plan_reply.specs.First.{IsAlone, given_of}
use Rattle.plan_reply.proofs.Made.{of_alone}
use Rattle.plan_reply.proofs.first.first_scene.Goals as goal

pub unreachable-requires-in-Err-RobotMany : goal.unreachable-requires-in-Err-RobotMany
unreachable-requires-in-Err-RobotMany c =
    let many = rw c.in-Err-RobotMany.field-0-is at c.in-Err-RobotMany.ensures in
    omega (arith, many.0, many.1, same_count c.args.robot.items c.in-Ok.robot c.in-Ok.ensures, c.requires.robot.most)

pub returns : goal.returns
returns c =
    let given = given_of c.args.frame c.args.robot.items c.args.adds.now in
    let alone : IsAlone given c.in-Ok-new.alone = record { kept = c.in-Ok.robot; is_read = c.in-Ok.ensures; is_scene = c.in-Ok-new.ensures.1 } in
    of_alone c.args.frame c.args.robot.items c.args.adds.now c.in-Ok-new.alone alone c.with_obstacles.result c.with_obstacles.ensures
