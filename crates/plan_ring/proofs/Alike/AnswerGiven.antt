-- Of one scene the size of its maps is one, and the answer that is given is one by position.
use Rattle.std.proofs.Common.{◌≡◌, ◌⊎◌, inl, inr, ◌<◌, ◌≤◌, List, sym, subst, arith}
use Rattle.std.proofs.lemmas.Bool.{cases_lt}
use Rattle.plan_spec.specs.Vector.{Vector, IsPoint}
use Rattle.plan_spec.specs.Answers.{Answer, start_touches, goal_touches, by_path, by_chain, IsCanonical}
use Rattle.plan_spec.specs.Maps.{IsMapOf, IsMapped, IsTooLarge}
use Rattle.plan_spec.specs.Placement.{Scene}
use Rattle.plan_spec.specs.Regions.{Lot, AreRegions, region_at}
use Rattle.plan_spec.specs.Pieces.{IsBoundaryOf}
use Rattle.plan_spec.specs.Slabs.{Slabs, AreSlabs, size}
use Rattle.plan_slab.proofs.Pieces.{has_pieces}
use Rattle.plan_slab.proofs.Sorted.Exist.{slabs_exist, regions_exist}
use Rattle.plan_slab.proofs.Regions.ExactlyOne.{KnownSlabs, spot_inside}
use Rattle.plan_slab.proofs.Regions.Numbered.{is_lot}
use Rattle.plan_ring.specs.Alike.{HasTriangles}
use Rattle.plan_ring.specs.Laws.{OneSizeOfScene, MappedOrTooLarge, AlikeAnswer, OneGiven, GivenByEachMap, OneGivenInLowestTerms, MapsExist}
use Rattle.plan_ring.proofs.Alike.SlabsLowest.{lowest_slabs}
use Rattle.plan_ring.proofs.Alike.Slabs.{AlikeSlabs}
use Rattle.plan_ring.proofs.Alike.Boundary.{boundary_alike, clear_alike}
use Rattle.plan_ring.proofs.Alike.Floor.{floor_of}
use Rattle.plan_ring.proofs.Alike.OfScene.{are_alike}
use Rattle.plan_ring.proofs.Alike.OneRoom.{one_room}
use Rattle.plan_ring.proofs.Alike.Pieces.{pieces_alike}
use Rattle.plan_ring.proofs.Alike.SlabsGround.{AlikeGround}
use Rattle.plan_ring.proofs.Alike.SlabsOne.{alike_slabs, alike_size}
use Rattle.plan_ring.proofs.Alike.RegionsOne.{one_regions}
use Rattle.plan_ring.proofs.Alike.AnswerOne.{HasSpotsOf, one_path, one_chain, not_both, not_both_too}
use Rattle.plan_ring.proofs.Alike.AnswerByEach.{answer_too}
use Rattle.plan_ring.proofs.Alike.AnswerEqual.{equal_answers}
use Rattle.plan_ring.proofs.Alike.AnswerTouched.{one_touched, not_clear}

-- ---- two maps of one scene
pub record AlikeMaps (σ τ : Slabs) (found other : List Lot) : Type 0 where
  pub slabs : AlikeSlabs σ τ
  pub regions : found ≡ other
  pub first_spots : HasSpotsOf σ found
  pub second_spots : HasSpotsOf τ other

-- the two rooms are one
one_place : (scene : Scene) {σ τ : Slabs} {found other : List Lot} (m : IsMapOf scene σ found) (n : IsMapOf scene τ other) → m.room ≡ n.room
one_place scene m n = one_room scene.robot scene.frame m.room n.room m.is_room n.is_room

ground : (scene : Scene) {σ τ : Slabs} {found other : List Lot} → HasTriangles scene → (m : IsMapOf scene σ found) (n : IsMapOf scene τ other) → AlikeGround m.sums n.sums m.room m.pieces n.pieces
ground scene triangles m n =
    let floor = floor_of scene m.sums m.room triangles m.are_sums m.is_room in
    let other = floor_of scene n.sums m.room triangles n.are_sums m.is_room in
    let bound = subst (λ r. IsBoundaryOf n.sums r n.pieces) (sym (one_place scene m n)) n.is_boundary in
    let alike = are_alike scene m.sums n.sums m.room triangles m.are_sums n.are_sums m.is_room in
    record {
      first = has_pieces floor m.is_boundary;
      second = has_pieces other bound;
      edges = boundary_alike m.sums n.sums m.room alike.alike;
      pieces = pieces_alike m.sums n.sums m.room m.pieces n.pieces floor.spots alike m.is_boundary bound;
      clear = λ z hz. clear_alike alike m.room z;
    }

pub alike_maps : (scene : Scene) {σ τ : Slabs} {found other : List Lot} → HasTriangles scene → IsMapOf scene σ found → IsMapOf scene τ other → AlikeMaps σ τ found other
alike_maps scene {σ} {τ} {found} {other} triangles m n = by (subst (λ r. AreSlabs n.sums r n.pieces τ) (sym room) n.slabs) (subst (λ r. AreRegions n.sums r τ other) (sym room) n.regions)
  where
    room : m.room ≡ n.room
    room = one_place scene m n

    g : AlikeGround m.sums n.sums m.room m.pieces n.pieces
    g = ground scene triangles m n

    by : AreSlabs n.sums m.room n.pieces τ → AreRegions n.sums m.room τ other → AlikeMaps σ τ found other
    by slabs regions =
        let a = alike_slabs g m.slabs slabs m.lowest n.lowest in
        let is : KnownSlabs m.sums m.room m.pieces σ = record { known = g.first; slabs = m.slabs } in
        let it : KnownSlabs n.sums m.room n.pieces τ = record { known = g.second; slabs = slabs } in
        record {
          slabs = a;
          regions = one_regions g a is it found other m.regions regions;
          first_spots = λ k within. (spot_inside is (region_at found k) (is_lot is m.regions k within)).0;
          second_spots = λ k within. (spot_inside it (region_at other k) (is_lot it regions k within)).0;
        }

pub one_size : OneSizeOfScene
one_size scene σ τ found other triangles m n = alike_size (alike_maps scene triangles m n).slabs

pub mapped_or_too_large : MappedOrTooLarge
mapped_or_too_large scene σ found triangles m = (by (cases_lt 131072 (size σ)), λ mapped large. let h = large mapped.slabs mapped.regions mapped.is_map in let k = mapped.few in omega arith)
  where
    by : (131072 < size σ) ⊎ (size σ ≤ 131072) → IsMapped scene ⊎ IsTooLarge scene
    by (inl large) = inr (λ τ other n. subst (λ k. 131072 < k) (one_size scene σ τ found other triangles m n) large)
    by (inr few) = inl (record { slabs = σ; regions = found; is_map = m; few = few })

pub maps_exist : MapsExist
maps_exist scene sums room pieces triangles are_sums is_room bound =
    let known = has_pieces (floor_of scene sums room triangles are_sums is_room) bound in
    let (σ, are) = slabs_exist known in
    let (τ, (low, slabs)) = lowest_slabs known σ are in
    let (found, regions) = regions_exist sums room τ in
    (τ, found, record { sums = sums; are_sums = are_sums; room = room; is_room = is_room; pieces = pieces; is_boundary = bound; lowest = low; slabs = slabs; regions = regions })

-- ---- answers
by_maps : (scene : Scene) (s g : Vector) {σ τ : Slabs} {found : List Lot} → IsPoint s → IsPoint g → AlikeMaps σ τ found found → (a b : Answer) → IsCanonical scene σ found s g a → IsCanonical scene τ found s g b → AlikeAnswer a b
by_maps scene s g hs hg maps (start_touches m) (start_touches n) c d = one_touched scene s m n c d
by_maps scene s g hs hg maps (start_touches m) (goal_touches n) c d = not_clear scene s m c d.0
by_maps scene s g hs hg maps (start_touches m) (by_path p) c d = not_clear scene s m c d.0
by_maps scene s g hs hg maps (start_touches m) (by_chain p) c d = not_clear scene s m c d.0
by_maps scene s g hs hg maps (goal_touches m) (start_touches n) c d = not_clear scene s n d c.0
by_maps scene s g hs hg maps (goal_touches m) (goal_touches n) c d = one_touched scene g m n c.1 d.1
by_maps scene s g hs hg maps (goal_touches m) (by_path p) c d = not_clear scene g m c.1 d.1
by_maps scene s g hs hg maps (goal_touches m) (by_chain p) c d = not_clear scene g m c.1 d.1
by_maps scene s g hs hg maps (by_path p) (start_touches n) c d = not_clear scene s n d c.0
by_maps scene s g hs hg maps (by_path p) (goal_touches n) c d = not_clear scene g n d.1 c.1
by_maps scene s g {found = found} hs hg maps (by_path p) (by_path q) c d = one_path maps.slabs found s g hs hg maps.first_spots maps.second_spots p q c.2 d.2
by_maps scene s g {found = found} hs hg maps (by_path p) (by_chain q) c d = not_both maps.slabs found s g hs hg p q c.2 d.2
by_maps scene s g hs hg maps (by_chain p) (start_touches n) c d = not_clear scene s n d c.0
by_maps scene s g hs hg maps (by_chain p) (goal_touches n) c d = not_clear scene g n d.1 c.1
by_maps scene s g {found = found} hs hg maps (by_chain p) (by_path q) c d = not_both_too maps.slabs found s g hs hg p q c.2 d.2
by_maps scene s g {found = found} hs hg maps (by_chain p) (by_chain q) c d = one_chain maps.slabs found s g hs hg p q c.2 d.2

pub one_given : OneGiven
one_given scene s g a b triangles hs hg h k =
    let maps = alike_maps scene triangles h.is_map k.is_map in
    by_maps scene s g hs hg (subst (λ f. AlikeMaps h.slabs k.slabs h.regions f) (sym maps.regions) maps) a b h.canonical (subst (λ f. IsCanonical scene k.slabs f s g b) (sym maps.regions) k.canonical)

pub given_by_each : GivenByEachMap
given_by_each scene σ found triangles m s g answer hs hg h = by (alike_maps scene triangles h.is_map m)
  where
    by : AlikeMaps h.slabs σ h.regions found → IsCanonical scene σ found s g answer
    by maps = answer_too maps.slabs found s g hs hg scene (subst (HasSpotsOf h.slabs) maps.regions maps.first_spots) maps.second_spots answer (subst (λ f. IsCanonical scene h.slabs f s g answer) maps.regions h.canonical)

pub one_in_lowest_terms : OneGivenInLowestTerms
one_in_lowest_terms scene s g a b triangles hs hg h k low low2 = equal_answers a b low low2 (one_given scene s g a b triangles hs hg h k)
