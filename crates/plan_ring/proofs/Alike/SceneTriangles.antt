-- The parts of a scene of simple polygons are pairs of triangles that turn left.
use Rattle.std.proofs.Common.{ℕ, List, [], ◌∷◌, map, get_or, All, Contains}
use Rattle.std.proofs.lemmas.List.Elements.{All-nil, All-cons, All-contains, All-map}
use Rattle.plan_spec.specs.Vector.{Vector, IsPoint}
use Rattle.plan_spec.specs.Sums.{part, parts_of}
use Rattle.plan_spec.specs.Triangulation.{Triangle, triangles}
use Rattle.plan_plane.proofs.Lists.{all_flat}
use Rattle.plan_grid.specs.declared.spot.Spot.{Spot}
use Rattle.plan_grid.specs.Spot.{spots_seen}
use Rattle.plan_poly.specs.Polygon.{IsPolygon}
use Rattle.plan_poly.proofs.Spots.{points_seen}
use Rattle.plan_tri.proofs.Region.Polygons.{of_polygon}
use Rattle.plan_scene.specs.Scene.{Scene, obstacle_seen, scene_seen, IsScene}
use Rattle.plan_ring.specs.Alike.{IsTriangle, IsPair, HasTriangles}

of_spots : (s : List Spot) → IsPolygon s → All IsTriangle (triangles (spots_seen s))
of_spots s p k d within =
    let r = of_polygon p in
    let t = get_or (triangles (spots_seen s)) k d in
    let (a, b, c) = r.vertices k d within in
    let point : (v : Vector) → Contains (spots_seen s) v → IsPoint v = λ v has. All-contains IsPoint (spots_seen s) v (points_seen s) has in
    record { points = All-cons IsPoint t.a (t.b ∷ t.c ∷ []) (point t.a a) (All-cons IsPoint t.b (t.c ∷ []) (point t.b b) (All-cons IsPoint t.c [] (point t.c c) (All-nil IsPoint))); left = r.left k d within }

of_parts : (rs ts : List Triangle) (id : ℕ) → All IsTriangle rs → All IsTriangle ts → All IsPair (parts_of rs id ts)
of_parts rs ts id hr ht = all_flat IsPair (λ t. map (part id t) rs) ts (λ k d within. All-map IsPair (part id (get_or ts k d)) rs (λ j e below. record { piece = ht k d within; robot = hr j e below }))

pub polygons_have_triangles : (s : Scene) → IsPolygon s.robot → All (λ o. IsPolygon o.spots) s.obstacles → HasTriangles (scene_seen s)
polygons_have_triangles s robot polygons =
    let rs = triangles (spots_seen s.robot) in
    all_flat IsPair (λ o. parts_of rs o.id (triangles o.shape)) (map obstacle_seen s.obstacles)
    (All-map (λ o. All IsPair (parts_of rs o.id (triangles o.shape))) obstacle_seen s.obstacles
    (λ k d within. let o = get_or s.obstacles k d in of_parts rs (triangles (spots_seen o.spots)) o.id (of_spots s.robot robot) (of_spots o.spots (polygons k d within))))

pub scene_triangles : (s : Scene) → IsScene s → HasTriangles (scene_seen s)
scene_triangles s h = polygons_have_triangles s h.robot h.polygons
