-- Scenes of polygons of spots, as values: the robot, the frame, and the obstacles by rising id.
use Rattle.std.specs.Prelude.{ℕ, ◌<◌, ◌≤◌, ◌-◌, ◌*◌, ◌<ℤ◌, Bool, List, ◌∷◌, ◌++◌, length, map, All, AllPairs, nat_lt}
use Rattle.std.specs.List.{filter, sum}
use Rattle.plan_spec.specs.Placement as placement
use Rattle.plan_grid.specs.declared.bounds.TheConstants.{MOST_CORNER}
use Rattle.plan_grid.specs.declared.frame.Frame.{Frame}
use Rattle.plan_grid.specs.declared.spot.Spot.{Spot}
use Rattle.plan_grid.specs.Frame.{frame_seen}
use Rattle.plan_grid.specs.Spot.{spots_seen, IsWithin}
use Rattle.plan_poly.specs.Polygon.{IsPolygon}

-- an obstacle by its id and its vertices
pub record Obstacle : Type 0 where
  pub id : ℕ
  pub spots : List Spot

abbrev pub obstacle : ℕ → List Spot → Obstacle
obstacle id spots = record { id = id; spots = spots }

-- a robot among obstacles in a frame
pub record Scene : Type 0 where
  pub robot : List Spot
  pub frame : Frame
  pub obstacles : List Obstacle

abbrev pub scene : List Spot → Frame → List Obstacle → Scene
scene robot frame obstacles = record { robot = robot; frame = frame; obstacles = obstacles }

abbrev pub obstacle_seen : Obstacle → placement.Obstacle
obstacle_seen o = record { id = o.id; shape = spots_seen o.spots }

abbrev pub scene_seen : Scene → placement.Scene
scene_seen s = record { frame = frame_seen s.frame; robot = spots_seen s.robot; obstacles = map obstacle_seen s.obstacles }

-- the scene with other obstacles
abbrev pub with_obstacles : Scene → List Obstacle → Scene
with_obstacles s os = scene s.robot s.frame os

-- ---- obstacles by rising id
abbrev pub is_lesser : ℕ → Obstacle → Bool
is_lesser id o = nat_lt o.id id

abbrev pub is_greater : ℕ → Obstacle → Bool
is_greater id o = nat_lt id o.id

-- those of lesser ids, the obstacle, and those of greater ids
abbrev pub with_obstacle : Obstacle → List Obstacle → List Obstacle
with_obstacle o os = filter (is_lesser o.id) os ++ o ∷ filter (is_greater o.id) os

-- those of other ids
abbrev pub without : ℕ → List Obstacle → List Obstacle
without id os = filter (is_lesser id) os ++ filter (is_greater id) os

-- ---- limits
-- how many sums a robot and an obstacle have: pairs of their triangles
abbrev pub pairs : List Spot → List Spot → ℕ
pairs robot spots = (length spots - 2) * (length robot - 2)

abbrev pub sum_count : List Spot → List Obstacle → ℕ
sum_count robot os = sum (map (λ o. pairs robot o.spots) os)

-- corners with coordinates of at most 1023 in absolute value, the lower left one strictly below and left of the other
pub record IsFrame (f : Frame) : Type 0 where
  pub low : IsWithin MOST_CORNER f.low
  pub high : IsWithin MOST_CORNER f.high
  pub wide : f.low.x <ℤ f.high.x
  pub tall : f.low.y <ℤ f.high.y

-- simple polygons, of 3 to 16 vertices the robot and of 3 to 32 the obstacles; at most 64 obstacles and 512 sums; ids from 1 to
-- 65,535, each once, rising
pub record IsScene (s : Scene) : Type 0 where
  pub frame : IsFrame s.frame
  pub robot : IsPolygon s.robot
  pub robot_few : length s.robot ≤ 16
  pub polygons : All (λ o. IsPolygon o.spots) s.obstacles
  pub ids : All (λ o. (1 ≤ o.id) × (o.id ≤ 65535)) s.obstacles
  pub rising : AllPairs (λ o p. o.id < p.id) s.obstacles
  pub few : length s.obstacles ≤ 64
  pub few_sums : sum_count s.robot s.obstacles ≤ 512
