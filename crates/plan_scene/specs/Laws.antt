-- What a scene's room and sums tell of a placement.
use Rattle.std.specs.Prelude.{◌↔◌, ◌⊎◌, List, Any}
use Rattle.plan_spec.specs.Vector.{Vector, IsPoint}
use Rattle.plan_spec.specs.Polygon.{Inside}
use Rattle.plan_spec.specs.Frame.{Frame, OnOrBeyond}
use Rattle.plan_spec.specs.Placement.{Touches}
use Rattle.plan_spec.specs.Room.{IsRoom}
use Rattle.plan_spec.specs.Sums.{AreSums}
use Rattle.plan_grid.specs.Frame.{frame_seen}
use Rattle.plan_grid.specs.Spot.{spots_seen}
use Rattle.plan_scene.specs.Scene.{Scene, scene_seen, IsScene}

-- it touches exactly where it is on a side of the room or beyond, or some sum holds it
abbrev pub TouchesByRoomAndSums : Type 0
TouchesByRoomAndSums =
    (s : Scene) (room : Frame) (sums : List (List Vector)) → IsScene s → IsRoom (spots_seen s.robot) (frame_seen s.frame) room → AreSums (scene_seen s) sums
    → (p : Vector) → IsPoint p → Touches (scene_seen s) p ↔ (OnOrBeyond room p ⊎ Any (λ vs. Inside vs p) sums)
