-- A robot placed at a point, among obstacles in a frame: what it touches, and by which number.
use Rattle.std.specs.Prelude.{◌≡◌, ℕ, ◌≤◌, List, ◌⊎◌, All, Any}
use Rattle.plan_spec.specs.Vector.{Vector, IsPoint, minus}
use Rattle.plan_spec.specs.Frame.{Frame, OnOrBeyond}
use Rattle.plan_spec.specs.SimplePolygon.{InPolygon}

-- an obstacle by its id and its vertices
pub record Obstacle : Type 0 where
  pub id : ℕ
  pub shape : List Vector

-- a robot and obstacles of any shape, in a frame; the robot is given at the placement (0, 0)
pub record Scene : Type 0 where
  pub frame : Frame
  pub robot : List Vector
  pub obstacles : List Obstacle

-- the robot, placed at p, has a point in common with the obstacle
abbrev pub Meets : List Vector → List Vector → Vector → Type 0
Meets robot obstacle p = (z : Vector) × IsPoint z × InPolygon obstacle z × InPolygon robot (minus z p)

-- some point of the robot, placed at p, is not strictly inside the frame
abbrev pub Leaves : List Vector → Frame → Vector → Type 0
Leaves robot frame p = (z : Vector) × IsPoint z × InPolygon robot (minus z p) × OnOrBeyond frame z

-- touching is collision: the frame counts, and so does a common point of two boundaries
abbrev pub Touches : Scene → Vector → Type 0
Touches scene p = Leaves scene.robot scene.frame p ⊎ Any (λ o. Meets scene.robot o.shape p) scene.obstacles

-- it does not touch
abbrev pub IsClear : Scene → Vector → Type 0
IsClear scene p = ¬ (Touches scene p)

-- an obstacle of the id n meets the robot, and none of a lower id does
pub record IsLeastMet (scene : Scene) (p : Vector) (n : ℕ) : Type 0 where
  pub met : Any (λ o. (o.id ≡ n) × Meets scene.robot o.shape p) scene.obstacles
  pub least : All (λ o. Meets scene.robot o.shape p → n ≤ o.id) scene.obstacles

-- the number of what is touched: 0 for the frame, else the least id of an obstacle that the robot meets
abbrev pub IsTouched : Scene → Vector → ℕ → Type 0
IsTouched scene p n = ((n ≡ 0) × Leaves scene.robot scene.frame p) ⊎ ((¬ (Leaves scene.robot scene.frame p)) × IsLeastMet scene p n)
