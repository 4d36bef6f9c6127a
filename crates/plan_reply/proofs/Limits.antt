-- The lines of a map are in lowest terms; and where all slabs of the pieces are too large, all maps of the scene are.
use Rattle.std.proofs.Common.{◌<◌, List, map, All, refl, subst}
use Rattle.std.proofs.lemmas.List.Elements.{All-map}
use Rattle.plan_spec.specs.Vector.{Vector}
use Rattle.plan_spec.specs.Frame.{Frame}
use Rattle.plan_spec.specs.Maps.{IsMapOf, IsTooLarge, IsLowestLine}
use Rattle.plan_spec.specs.Pieces.{Piece, IsBoundaryOf}
use Rattle.plan_spec.specs.Room.{IsRoom}
use Rattle.plan_spec.specs.Sums.{AreSums}
use Rattle.plan_grid.specs.Fraction.{Fraction}
use Rattle.plan_scene.specs.Scene.{Scene, scene_seen, IsScene}
use Rattle.plan_slab.specs.EventLines.{IsLine}
use Rattle.plan_slab.specs.Seen.{line_seen}
use Rattle.plan_slab.specs.Sweeps.{AreTooMany}
use Rattle.plan_slab.proofs.Pieces.{has_pieces}
use Rattle.plan_slab.proofs.Sorted.Exist.{slabs_exist, regions_exist}
use Rattle.plan_ring.proofs.Alike.AnswerGiven.{one_size}
use Rattle.plan_ring.proofs.Alike.Floor.{floor_of}
use Rattle.plan_ring.proofs.Alike.SceneTriangles.{scene_triangles}
use Rattle.plan_ring.proofs.Alike.SlabsLowest.{lowest_slabs}

pub lowest_lines : (ls : List Fraction) → All IsLine ls → All IsLowestLine (map line_seen ls)
lowest_lines ls h = All-map IsLowestLine line_seen ls (λ k d within. let l = h k d within in record { on_axis = refl; lowest = l.ratio.lowest })

-- some slabs of the pieces make a map, and all maps have its size
pub too_large : (scene : Scene) → IsScene scene → (sums : List (List Vector)) (room : Frame) (pieces : List Piece) → AreSums (scene_seen scene) sums → IsRoom (scene_seen scene).robot (scene_seen scene).frame room → IsBoundaryOf sums room pieces → AreTooMany sums room pieces → IsTooLarge (scene_seen scene)
too_large scene is_scene sums room pieces are_sums is_room bound many σ found m =
    let triangles = scene_triangles scene is_scene in
    let known = has_pieces (floor_of (scene_seen scene) sums room triangles are_sums is_room) bound in
    let (some, are) = slabs_exist known in
    let (τ, (low, slabs)) = lowest_slabs known some are in
    let (other, regions) = regions_exist sums room τ in
    let n : IsMapOf (scene_seen scene) τ other = record { sums = sums; are_sums = are_sums; room = room; is_room = is_room; pieces = pieces; is_boundary = bound; lowest = low; slabs = slabs; regions = regions } in
    subst (λ k. 131072 < k) (one_size (scene_seen scene) τ σ other found triangles n m) (many τ slabs)
