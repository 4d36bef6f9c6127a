-- The sums of a scene, written in two ways, are alike.
use Rattle.std.proofs.Common.{List}
use Rattle.plan_spec.specs.Vector.{Vector}
use Rattle.plan_spec.specs.Frame.{Frame}
use Rattle.plan_spec.specs.Room.{IsRoom}
use Rattle.plan_spec.specs.Placement.{Scene}
use Rattle.plan_spec.specs.Sums.{AreSums}
use Rattle.plan_ring.specs.Alike.{HasTriangles}
use Rattle.plan_ring.proofs.Alike.Boundary.{AreAlike}
use Rattle.plan_ring.proofs.Alike.Floor.{floor_of, sums_alike}
use Rattle.plan_plane.proofs.Boundary.Floor.{IsFloor}

module _ (scene : Scene) (sums others : List (List Vector)) (room : Frame) (triangles : HasTriangles scene) (one : AreSums scene sums) (other : AreSums scene others) (is_room : IsRoom scene.robot scene.frame room) where
  pub floor : IsFloor sums room
  floor = floor_of scene sums room triangles one is_room

  pub are_alike : AreAlike sums others
  are_alike = record { one = floor.are_sums; other = (floor_of scene others room triangles other is_room).are_sums; alike = sums_alike scene sums others triangles one other }
