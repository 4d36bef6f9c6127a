-- The first scene of a document: its robot in its frame, and its obstacles put in one after another; or the first refusal.
use Rattle.std.specs.Prelude.{List, map}
use Rattle.plan_grid.specs.declared.frame.Frame.{Frame}
use Rattle.plan_grid.specs.declared.spot.Spot.{Spot}
use Rattle.plan_wire.specs.declared.documents.Shape.{Shape}
use Rattle.plan_scene.specs.Scene.{Scene, Obstacle, obstacle, scene}
use Rattle.plan_reply.specs.First.{IsRefusedFirst}
use Rattle.plan_reply.specs.declared.fault.FirstFault.TheVariants as first
use Rattle.plan_top.specs.declared.status.Refusal.{Refusal}
use Rattle.plan_top.specs.declared.status.Refusal.TheVariants.{RobotNotSimple, Obstacle as ObstacleAt, TooManyRegions}

-- the obstacle of a document
abbrev pub obstacle_of : Shape → Obstacle
obstacle_of s = obstacle s.id s.spots.items

-- the robot, the frame and the obstacles as they are given
abbrev pub given_of : Frame → List Spot → List Shape → Scene
given_of frame robot shapes = scene robot frame (map obstacle_of shapes)

-- why there is no first scene, as a refusal
abbrev pub IsRefusedBy : Scene → Refusal → Type 0
IsRefusedBy given (RobotNotSimple i j) = IsRefusedFirst given (first.RobotNotSimple i j)
IsRefusedBy given (ObstacleAt at fault) = IsRefusedFirst given (first.Obstacle at fault)
IsRefusedBy given TooManyRegions = IsRefusedFirst given first.TooManyRegions
IsRefusedBy given _ = ⊥
