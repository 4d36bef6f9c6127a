-- What an edit makes of a scene, or the first refusal.
use Rattle.std.specs.Prelude.{◌≡◌, ℕ, ◌<◌, ◌≤◌, ◌+◌, List, length, All, Any}
use Rattle.plan_spec.specs.SimplePolygon.{IsSimple, IsFirstWrongPair}
use Rattle.plan_grid.specs.declared.bounds.TheConstants.{MOST_CORNER}
use Rattle.plan_grid.specs.declared.spot.Spot.{Spot}
use Rattle.plan_grid.specs.Spot.{spots_seen, IsWithin}
use Rattle.plan_poly.specs.Polygon.{IsRead, HasCount}
use Rattle.plan_scene.specs.declared.edit.Edit.{Edit}
use Rattle.plan_scene.specs.declared.edit.Edit.TheVariants.{Add, Remove}
use Rattle.plan_scene.specs.declared.fault.EditFault.{EditFault}
use Rattle.plan_scene.specs.declared.fault.EditFault.TheVariants.{Duplicate, Unknown, NotSimple, TooManyObstacles, TooManySums, NoMemory}
use Rattle.plan_scene.specs.declared.fault.SceneFault.{SceneFault}
use Rattle.plan_scene.specs.declared.fault.SceneFault.TheVariants as scene_fault
use Rattle.plan_scene.specs.Scene.{Scene, obstacle, with_obstacle, without, with_obstacles, pairs, sum_count}

abbrev pub IsId : ℕ → Type 0
IsId id = (1 ≤ id) × (id ≤ 65535)

-- 3 to 32 spots with coordinates of at most 1023 in absolute value
abbrev pub IsShape : List Spot → Type 0
IsShape spots = HasCount spots × All (IsWithin MOST_CORNER) spots

-- ids from 1 to 65,535, and shapes in range
abbrev pub IsEdit : Edit → Type 0
IsEdit (Add id spots) = IsId id × IsShape spots.items
IsEdit (Remove id) = IsId id

-- an obstacle of this id is there
abbrev pub HasId : Scene → ℕ → Type 0
HasId s id = Any (λ o. o.id ≡ id) s.obstacles

-- how many sums there are with an obstacle of these spots
abbrev pub sums_with : Scene → List Spot → ℕ
sums_with s spots = sum_count s.robot s.obstacles + pairs s.robot spots

-- nothing refuses the obstacle, and t is s with it; its vertices run counterclockwise from the least
abbrev pub IsAdded : Scene → ℕ → List Spot → Scene → Type 0
IsAdded s id spots t =
    (¬ (HasId s id)) × (length s.obstacles < 64) × (sums_with s spots ≤ 512)
    × (kept : List Spot) × IsRead spots kept × (t ≡ with_obstacles s (with_obstacle (obstacle id kept) s.obstacles))

-- why an obstacle is not added: each cause only where none before it holds; want of memory comes at any time
abbrev pub IsNotAdded : Scene → ℕ → List Spot → EditFault → Type 0
IsNotAdded s id spots (Duplicate n) = (n ≡ id) × HasId s id
IsNotAdded s id spots (NotSimple i j) = (¬ (HasId s id)) × IsFirstWrongPair (spots_seen spots) i j
IsNotAdded s id spots TooManyObstacles = (¬ (HasId s id)) × IsSimple (spots_seen spots) × (length s.obstacles ≡ 64)
IsNotAdded s id spots (TooManySums n) =
    (¬ (HasId s id)) × IsSimple (spots_seen spots) × (length s.obstacles < 64) × (n ≡ sums_with s spots) × (512 < n)
IsNotAdded s id spots NoMemory = Unit {0}
IsNotAdded s id spots (Unknown n) = ⊥

-- the obstacle is there, and t is s without it
abbrev pub IsRemoved : Scene → ℕ → Scene → Type 0
IsRemoved s id t = HasId s id × (t ≡ with_obstacles s (without id s.obstacles))

-- why an obstacle is not removed
abbrev pub IsNotRemoved : Scene → ℕ → EditFault → Type 0
IsNotRemoved s id (Unknown n) = (n ≡ id) × ¬ (HasId s id)
IsNotRemoved s id NoMemory = Unit {0}
IsNotRemoved s id _ = ⊥

-- what the edit makes of s
abbrev pub IsEdited : Scene → Edit → Scene → Type 0
IsEdited s (Add id spots) t = IsAdded s id spots.items t
IsEdited s (Remove id) t = IsRemoved s id t

-- what refuses it
abbrev pub IsRefused : Scene → Edit → EditFault → Type 0
IsRefused s (Add id spots) fault = IsNotAdded s id spots.items fault
IsRefused s (Remove id) fault = IsNotRemoved s id fault

-- the spots are not simple
abbrev pub IsNotSimple : List Spot → EditFault → Type 0
IsNotSimple spots (NotSimple i j) = IsFirstWrongPair (spots_seen spots) i j
IsNotSimple spots _ = ⊥

-- a robot of more than 16 vertices has no scene
abbrev pub IsRefusedRobot : List Spot → SceneFault → Type 0
IsRefusedRobot robot (scene_fault.RobotMany n) = (n ≡ length robot) × (16 < n)
IsRefusedRobot robot scene_fault.NoMemory = Unit {0}
