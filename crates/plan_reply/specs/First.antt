-- The first scene of a robot in a frame among obstacles: they are put in one after another, in the order of the list; or the first refusal.
use Rattle.std.specs.Prelude.{◌≡◌, ◌≤◌, ℕ, zero, suc, List, [], ◌∷◌, map, length, All}
use Rattle.plan_spec.specs.Maps.{IsMapped, IsTooLarge}
use Rattle.plan_spec.specs.SimplePolygon.{IsFirstWrongPair}
use Rattle.plan_grid.specs.declared.bounds.TheConstants.{MOST_CORNER}
use Rattle.plan_grid.specs.declared.frame.Frame.{Frame}
use Rattle.plan_grid.specs.declared.spot.Spot.{Spot}
use Rattle.plan_grid.specs.Spot.{spots_seen, IsWithin}
use Rattle.plan_poly.specs.Polygon.{IsRead}
use Rattle.plan_scene.specs.Scene.{Scene, Obstacle, obstacle, scene, scene_seen}
use Rattle.plan_scene.specs.Edits.{IsAdded, IsNotAdded, IsId, IsShape}
use Rattle.plan_scene.specs.declared.edit.Edit.{Edit}
use Rattle.plan_scene.specs.declared.edit.Edit.TheVariants.{Add, Remove}
use Rattle.plan_scene.specs.declared.fault.EditFault.{EditFault}
use Rattle.plan_reply.specs.Step.{IsCause}
use Rattle.plan_reply.specs.declared.fault.FirstFault.{FirstFault}
use Rattle.plan_reply.specs.declared.fault.FirstFault.TheVariants.{RobotNotSimple, Obstacle as ObstacleAt, TooManyRegions, NoMemory}

-- ---- what is given
-- an edit that adds, in range
abbrev pub IsAdd : Edit → Type 0
IsAdd (Add id spots) = IsId id × IsShape spots.items
IsAdd (Remove id) = ⊥

-- 3 to 16 spots with coordinates of at most 1023 in absolute value
pub record IsRobot (robot : List Spot) : Type 0 where
  pub least : 3 ≤ length robot
  pub most : length robot ≤ 16
  pub bounded : All (IsWithin MOST_CORNER) robot

-- the obstacle that an edit adds
abbrev pub obstacle_of : Edit → Obstacle
obstacle_of (Add id spots) = obstacle id spots.items
obstacle_of (Remove id) = obstacle id []

-- the robot, the frame and the obstacles as they are given
abbrev pub given_of : Frame → List Spot → List Edit → Scene
given_of frame robot adds = scene robot frame (map obstacle_of adds)

-- ---- what is made of it
-- the obstacles are added to s one after another, which makes t
abbrev pub IsAddedAll : List Obstacle → Scene → Scene → Type 0
IsAddedAll [] s t = t ≡ s
IsAddedAll (o ∷ os) s t = (next : Scene) × IsAdded s o.id o.spots next × IsAddedAll os next t

-- those before place k are added to s, and the one at place k is refused
abbrev pub IsRefusedAt : ℕ → EditFault → List Obstacle → Scene → Type 0
IsRefusedAt k fault [] s = ⊥
IsRefusedAt zero fault (o ∷ os) s = IsNotAdded s o.id o.spots fault × IsCause fault
IsRefusedAt (suc k) fault (o ∷ os) s = (next : Scene) × IsAdded s o.id o.spots next × IsRefusedAt k fault os next

-- the robot alone, counterclockwise from its least vertex
pub record IsAlone (given s : Scene) : Type 0 where
  pub kept : List Spot
  pub is_read : IsRead given.robot kept
  pub is_scene : s ≡ scene kept given.frame []

-- the scene of them all, whatever its size
abbrev pub IsWhole : Scene → Scene → Type 0
IsWhole given s = (alone : Scene) × IsAlone given alone × IsAddedAll given.obstacles alone s

-- the first scene: its map is not too large
abbrev pub IsFirst : Scene → Scene → Type 0
IsFirst given s = IsWhole given s × IsMapped (scene_seen s)

-- why there is none: the robot is not simple; else an obstacle is refused; else the whole is too large
abbrev pub IsRefusedFirst : Scene → FirstFault → Type 0
IsRefusedFirst given (RobotNotSimple i j) = IsFirstWrongPair (spots_seen given.robot) i j
IsRefusedFirst given (ObstacleAt at fault) = (alone : Scene) × IsAlone given alone × IsRefusedAt at fault given.obstacles alone
IsRefusedFirst given TooManyRegions = (s : Scene) × IsWhole given s × IsTooLarge (scene_seen s)
IsRefusedFirst given NoMemory = Unit {0}

-- ---- of the edits that are left
-- the scene with their obstacles, whatever its size
abbrev pub IsMade : List Edit → Scene → Scene → Type 0
IsMade adds s t = IsAddedAll (map obstacle_of adds) s t

-- one of them is refused
abbrev pub IsNotMade : List Edit → Scene → FirstFault → Type 0
IsNotMade adds s (ObstacleAt at fault) = IsRefusedAt at fault (map obstacle_of adds) s
IsNotMade adds s NoMemory = Unit {0}
IsNotMade adds s _ = ⊥
