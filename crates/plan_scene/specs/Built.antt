-- Sums as a scene keeps them, beside their boxes and the ids of their obstacles.
use Rattle.std.specs.Prelude.{◌≡◌, ℕ, ◌<◌, List, ◌++◌, map, length, get_or, All}
use Rattle.std.specs.List.{AllZip, flat_map}
use Rattle.plan_spec.specs.Vector.{Vector}
use Rattle.plan_spec.specs.Polygon.{Inside}
use Rattle.plan_spec.specs.Triangulation as spec
use Rattle.plan_spec.specs.Sums.{Part, IsSum, parts_of}
use Rattle.plan_grid.specs.declared.spot.Spot.{Spot}
use Rattle.plan_grid.specs.Spot.{spots_seen}
use Rattle.plan_convex.specs.Boxes.{IsBox}
use Rattle.plan_convex.specs.Piece.{sums_seen}
use Rattle.plan_grid.specs.declared.frame.Frame.{Frame}
use Rattle.plan_grid.specs.Frame.{frame_seen}
use Rattle.plan_spec.specs.Room.{IsRoom}
use Rattle.plan_scene.specs.Shape.{triangles_of}
use Rattle.plan_scene.specs.Scene.{Obstacle, Scene, IsScene}
use Rattle.plan_scene.specs.declared.sums.Sums.{Sums}

-- the sums of these parts, in their order
pub record AreSumsOf (ps : List Part) (s : Sums) : Type 0 where
  pub sums : AllZip IsSum ps (sums_seen s.list.items)
  pub boxes : AllZip IsBox s.list.items s.bounds.items
  pub owners : s.owners.items ≡ map (λ p. p.owner) ps

-- the sums of the parts qs are put behind those that are there
abbrev pub Adds : List Part → Sums → Sums → Type 0
Adds qs s t = (ps : List Part) → AreSumsOf ps s → AreSumsOf (ps ++ qs) t

-- the parts of the obstacles with a robot of these triangles
abbrev pub parts_by : List spec.Triangle → List Obstacle → List Part
parts_by rs os = flat_map (λ o. parts_of rs o.id (triangles_of o.spots)) os

-- sum k is the first that holds z, and n is its owner
pub record IsFirstOwner (s : Sums) (z : Vector) (n : ℕ) : Type 0 where
  pub k : ℕ
  pub within : k < length s.list.items
  pub holds : (d : List Spot) → Inside (spots_seen (get_or s.list.items k d)) z
  pub earlier : (j : ℕ) (d : List Spot) → j < k → ¬ (Inside (spots_seen (get_or s.list.items j d)) z)
  pub owner : (d : ℕ) → n ≡ get_or s.owners.items k d

-- no sum holds z
abbrev pub HoldsNone : Sums → Vector → Type 0
HoldsNone s z = All (λ vs. ¬ (Inside (spots_seen vs) z)) s.list.items

-- what a scene keeps beside its value
pub record IsKept (s : Scene) (room : Frame) (sums : Sums) : Type 0 where
  pub is_scene : IsScene s
  pub is_room : IsRoom (spots_seen s.robot) (frame_seen s.frame) (frame_seen room)
  pub are_sums : AreSumsOf (parts_by (triangles_of s.robot) s.obstacles) sums
