-- The frame, moved by the box of the robot's vertices, is the room.
use Rattle.plan_scene.proofs.Rooms.{room_is}
use Rattle.plan_scene.proofs.scene.room.Goals as goal

pub returns : goal.returns
returns c = room_is c.args.robot.now c.args.frame c.bounds-bounds.result c.minus.result c.minus-2.result c.bounds-bounds.ensures c.minus.ensures c.minus-2.ensures
