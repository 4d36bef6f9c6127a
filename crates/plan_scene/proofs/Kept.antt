-- What a scene keeps tells what a placement touches: its polygons are made up of their triangles, and its sums are those of the triangles.
use Rattle.std.proofs.Common.{◌≡◌, ℕ, ◌+◌, ◌-◌, ◌*◌, ◌<◌, List, [], ◌∷◌, ◌++◌, Option, None, Some, length, length-append, map, take, get_or, All, MatchOption, refl, sym, ap, ap₂, subst, ◌∙◌, arith}
use Rattle.std.specs.List.{AllZip}
use Rattle.std.proofs.lemmas.List.{length-map, get_or-map, take_more}
use Rattle.std.proofs.lemmas.List.Elements.{All-map, All-tail}
use Rattle.std.proofs.lemmas.List.Folds.{flat_map-map}
use Rattle.std.proofs.lemmas.Grind.{flat_map-append}
use Rattle.std.proofs.lemmas.List.{append-nil}
use Rattle.plan_spec.specs.Vector.{Vector, IsPoint}
use Rattle.plan_spec.specs.Frame as spec
use Rattle.plan_spec.specs.Frame.{OnOrBeyond}
use Rattle.plan_spec.specs.Room.{IsRoom}
use Rattle.plan_spec.specs.Polygon.{Inside}
use Rattle.plan_spec.specs.Placement.{IsClear, IsTouched}
use Rattle.plan_spec.specs.Triangulation.{Triangle, triangles}
use Rattle.plan_spec.specs.Sums.{Part, part, parts_of, parts, IsSum, AreSums}
use Rattle.plan_plane.proofs.Lists.{all_pairs_map}
use Rattle.plan_grid.specs.declared.frame.Frame.{Frame}
use Rattle.plan_grid.specs.declared.spot.Spot.{Spot}
use Rattle.plan_grid.specs.Frame.{frame_seen}
use Rattle.plan_grid.specs.Spot.{spot_seen, spots_seen}
use Rattle.plan_grid.proofs.Spots.{origin}
use Rattle.plan_poly.specs.Polygon.{IsPolygon}
use Rattle.plan_poly.proofs.Spots.{count_seen}
use Rattle.plan_tri.proofs.Region.Polygons.{of_polygon}
use Rattle.plan_tri.proofs.Region.Triangulated.{Triangulated}
use Rattle.plan_convex.specs.Boxes.{IsBox}
use Rattle.plan_convex.specs.Piece.{sums_seen}
use Rattle.plan_scene.specs.Shape.{triangles_of}
use Rattle.plan_scene.specs.Scene.{Obstacle, Scene, obstacle_seen, scene_seen, pairs, sum_count, IsScene}
use Rattle.plan_scene.specs.Built.{AreSumsOf, parts_by, IsFirstOwner, HoldsNone, IsKept}
use Rattle.plan_scene.specs.Laws.{TouchesByRoomAndSums}
use Rattle.plan_scene.specs.declared.sums.Sums.{Sums}
use Rattle.plan_scene.proofs.Filtered.{sum_more}
use Rattle.plan_scene.proofs.Meeting.{IsReady, touches}
use Rattle.plan_scene.proofs.Number as N
use Rattle.plan_scene.proofs.Number.{zip_length}

-- ---- no sums
pub none_yet : (s : Sums) → s.list.items ≡ [] → s.bounds.items ≡ [] → s.owners.items ≡ [] → AreSumsOf [] s
none_yet s e f g = record {
  sums = subst (λ l. AllZip IsSum [] (sums_seen l)) (sym e) tt;
  boxes = subst (λ l. AllZip IsBox l s.bounds.items) (sym e) (subst (AllZip IsBox []) (sym f) tt);
  owners = g;
}

-- ---- one obstacle more
pub next_obstacle : (rs : List Triangle) (os : List Obstacle) (i : ℕ) (o : Obstacle) (id : ℕ) (ts : List Triangle) (s : Sums) → i < length os → o ≡ get_or os i o → id ≡ o.id → ts ≡ triangles_of o.spots
    → AreSumsOf (parts_by rs (take i os) ++ parts_of rs id ts) s → AreSumsOf (parts_by rs (take (i + 1) os)) s
next_obstacle rs os i o id ts s lt is e f a = subst (λ l. AreSumsOf l s) (sym next) a
  where
    one : Obstacle → List Part
    one o = parts_of rs o.id (triangles_of o.spots)

    next : parts_by rs (take (i + 1) os) ≡ parts_by rs (take i os) ++ parts_of rs id ts
    next =
        ap (parts_by rs) (take_more os i o lt) ∙ flat_map-append one (take i os) (get_or os i o ∷ [])
        ∙ ap (λ l. parts_by rs (take i os) ++ l) (append-nil (one (get_or os i o)) ∙ ap one (sym is) ∙ sym (ap₂ (parts_of rs) e f))

-- ---- how many sums there are
count_of_one : (rs : List Triangle) (id : ℕ) (ts : List Triangle) → length (parts_of rs id ts) ≡ length ts * length rs
count_of_one rs id [] = omega arith
count_of_one rs id (t ∷ ts) = omega (arith, length-append (map (part id t) rs) (parts_of rs id ts), length-map rs (part id t), count_of_one rs id ts)

count_of : (s : List Spot) → IsPolygon s → length (triangles_of s) ≡ length s - 2
count_of s p = omega (arith, (of_polygon p).count, count_seen s)

count_parts : (robot : List Spot) (os : List Obstacle) → IsPolygon robot → All (λ o. IsPolygon o.spots) os → length (parts_by (triangles_of robot) os) ≡ sum_count robot os
count_parts robot [] hr h = refl
count_parts robot (o ∷ os) hr h =
    length-append (parts_of (triangles_of robot) o.id (triangles_of o.spots)) (parts_by (triangles_of robot) os)
    ∙ ap₂ (λ m n. m + n) (count_of_one (triangles_of robot) o.id (triangles_of o.spots) ∙ ap₂ (λ m n. m * n) (count_of o.spots (h 0 o (omega arith))) (count_of robot hr))
    (count_parts robot os hr (All-tail (λ o. IsPolygon o.spots) o os h))
    ∙ sym (sum_more (λ o. pairs robot o.spots) o os)

-- ---- a scene's polygons are made up of their triangles
ready_of : (s : Scene) → IsScene s → (room : spec.Frame) (sums : List (List Vector)) → IsRoom (spots_seen s.robot) (frame_seen s.frame) room → AreSums (scene_seen s) sums → IsReady (scene_seen s) room sums
ready_of s h room sums r a = record {
  robot = of_polygon h.robot;
  obstacles = All-map (λ o. Triangulated o.shape (triangles o.shape)) obstacle_seen s.obstacles (λ i d within. of_polygon (h.polygons i d within));
  is_room = r;
  are_sums = a;
}

pub touching : TouchesByRoomAndSums
touching s room sums h r a = touches (scene_seen s) room sums (ready_of s h room sums r a)

abbrev nothing : Part
nothing = part 0 (record { a = spot_seen origin; b = spot_seen origin; c = spot_seen origin }) (record { a = spot_seen origin; b = spot_seen origin; c = spot_seen origin })

-- an answer of the one kind, as one of the other
pub told : (o : Option ℕ) (N C : Type 0) (F T : ℕ → Type 0) → (N → C) → ((n : ℕ) → F n → T n) → MatchOption o N F → MatchOption o C T
told None N C F T f g h = f h
told (Some n) N C F T f g h = g n h

module _ (s : Scene) (room : Frame) (sums : Sums) (k : IsKept s room sums) where
  parts_are : parts (scene_seen s) ≡ parts_by (triangles_of s.robot) s.obstacles
  parts_are = flat_map-map (λ o. parts_of (triangles_of s.robot) o.id (triangles o.shape)) obstacle_seen s.obstacles

  pub are_sums : AreSums (scene_seen s) (sums_seen sums.list.items)
  are_sums = subst (λ ps. AllZip IsSum ps (sums_seen sums.list.items)) (sym parts_are) k.are_sums.sums

  pub count : length sums.list.items ≡ sum_count s.robot s.obstacles
  count =
      sym (length-map sums.list.items spots_seen) ∙ sym (zip_length IsSum (parts_by (triangles_of s.robot) s.obstacles) (sums_seen sums.list.items) k.are_sums.sums)
      ∙ count_parts s.robot s.obstacles k.is_scene.robot k.is_scene.polygons

  pub count_parts_seen : length (parts (scene_seen s)) ≡ sum_count s.robot s.obstacles
  count_parts_seen = ap length parts_are ∙ count_parts s.robot s.obstacles k.is_scene.robot k.is_scene.polygons

  pub count_owners : length sums.owners.items ≡ length sums.list.items
  count_owners =
      ap length k.are_sums.owners ∙ length-map (parts_by (triangles_of s.robot) s.obstacles) (λ p. p.owner) ∙ count_parts s.robot s.obstacles k.is_scene.robot k.is_scene.polygons ∙ sym count

  pub owner_is : (i : ℕ) (d : ℕ) (e : Part) → i < length (parts (scene_seen s)) → get_or sums.owners.items i d ≡ (get_or (parts (scene_seen s)) i e).owner
  owner_is i d e within =
      ap (λ os. get_or os i d) k.are_sums.owners
      ∙ get_or-map (λ p. p.owner) (parts_by (triangles_of s.robot) s.obstacles) i e d (subst (λ ps. i < length ps) parts_are within)
      ∙ ap (λ ps. (get_or ps i e).owner) (sym parts_are)

  pub owner_within : (i : ℕ) → i < length (parts (scene_seen s)) → i < length sums.owners.items
  owner_within i within = omega (arith, within, ap length parts_are, ap length k.are_sums.owners, length-map (parts_by (triangles_of s.robot) s.obstacles) (λ p. p.owner))

  ready : IsReady (scene_seen s) (frame_seen room) (sums_seen sums.list.items)
  ready = ready_of s k.is_scene (frame_seen room) (sums_seen sums.list.items) k.is_room are_sums

  module _ (z : Vector) (hz : IsPoint z) where
    pub frame_touched : OnOrBeyond (frame_seen room) z → IsTouched (scene_seen s) z 0
    frame_touched = N.of_frame (scene_seen s) (frame_seen room) (sums_seen sums.list.items) ready z hz

    pub none_clear : ¬ (OnOrBeyond (frame_seen room) z) → HoldsNone sums z → IsClear (scene_seen s) z
    none_clear inside none = N.clear (scene_seen s) (frame_seen room) (sums_seen sums.list.items) ready z hz inside (All-map (λ vs. ¬ (Inside vs z)) spots_seen sums.list.items none)

    pub first_touched : ¬ (OnOrBeyond (frame_seen room) z) → (n : ℕ) → IsFirstOwner sums z n → IsTouched (scene_seen s) z n
    first_touched inside n f =
        let list = sums.list.items in
        let long = length-map list spots_seen in
        let own : n ≡ (get_or (parts (scene_seen s)) f.k nothing).owner = f.owner 0 ∙ owner_is f.k 0 nothing (omega (arith, long, f.within, zip_length IsSum (parts (scene_seen s)) (sums_seen list) are_sums)) in
        subst (IsTouched (scene_seen s) z) (sym own)
        (N.of_first_sum (scene_seen s) (frame_seen room) (sums_seen list) ready z hz inside (all_pairs_map (λ a b. a.id < b.id) obstacle_seen s.obstacles k.is_scene.rising) f.k nothing (omega (arith, long, f.within))
        (subst (λ vs. Inside vs z) (sym (get_or-map spots_seen list f.k [] [] f.within)) (f.holds []))
        (λ j lt i. f.earlier j [] lt (subst (λ vs. Inside vs z) (get_or-map spots_seen list j [] [] (omega (arith, f.within))) i)))
