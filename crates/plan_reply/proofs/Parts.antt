-- The part of a spot, by the labels of a map.
use Rattle.std.proofs.Common.{◌≡◌, ℕ, ◌≤◌, ◌<◌, List, length, get_or, sym, subst, ◌∙◌, arith}
use Rattle.plan_spec.specs.Vector.{Vector, IsPoint}
use Rattle.plan_spec.specs.Answers.{by_chain}
use Rattle.plan_spec.specs.Boundary.{IsClearOf}
use Rattle.plan_spec.specs.Maps.{IsMapOf}
use Rattle.plan_spec.specs.Neighbours.{AreNeighbours}
use Rattle.plan_spec.specs.Placement.{Touches, IsClear}
use Rattle.plan_spec.specs.Regions.{Lot, IsIn}
use Rattle.plan_spec.specs.Segment.{Segment}
use Rattle.plan_spec.specs.Slabs.{Slabs}
use Rattle.plan_spec.specs.Walks.{AreJoined}
use Rattle.plan_scene.specs.Scene.{Scene, scene_seen, IsScene}
use Rattle.plan_slab.specs.Subdivision.{Subdivision, slabs_of, regions_of}
use Rattle.plan_slab.proofs.Decomposition.{touched_of}
use Rattle.plan_map.proofs.Graph.Joined.{joined_on}
use Rattle.plan_ring.proofs.Alike.AnswerGiven.{alike_maps}
use Rattle.plan_ring.proofs.Alike.AnswerWalks.{one_region, same_next}
use Rattle.plan_ring.proofs.Alike.SceneTriangles.{scene_triangles}
use Rattle.plan_ring.proofs.Alike.Slabs.{AlikeSlabs}
use Rattle.plan_ring.specs.Grown.{IsRingOf}
use Rattle.plan_reply.specs.Rings.{IsRing, IsClosedPart}
use Rattle.plan_reply.specs.Stand.{IsStand, IsPart, IsReply, IsLowestAnswer}
use Rattle.plan_reply.proofs.Joined.{joined_back, same_component}
use Rattle.plan_reply.proofs.Longer.{ends_points}
use Rattle.plan_reply.proofs.Replies.{floor, decomposed, clear_there, clear_here, chain_reply}

module _ (scene : Scene) (is_scene : IsScene scene) (map : Subdivision) (labels : List ℕ) (stand : IsStand scene map labels) (z : Vector) (hz : IsPoint z) where
  pub part_here : (region : ℕ) → IsIn (slabs_of map) (regions_of map) z region → IsPart (scene_seen scene) z (get_or labels region 0)
  part_here region is = record {
    slabs = slabs_of map;
    regions = regions_of map;
    is_map = stand.is_map;
    region = region;
    is_in = is;
    within = stand.are_labels.below region is.is_region;
    joined = stand.are_labels.joined region is.is_region;
    least = λ n within j. stand.are_labels.least n region within is.is_region j;
  }

  pub touched_here : ¬ (IsClearOf stand.is_map.sums stand.is_map.room z) → Touches (scene_seen scene) z
  touched_here h = ((floor scene is_scene stand.is_map).touches z hz).1 (touched_of stand.is_map.sums stand.is_map.room z h)

-- ---- by any map of the scene
-- the region of the map in which z is, and the least that is joined to it
pub record IsPartBy (σ : Slabs) (found : List Lot) (z : Vector) (part : ℕ) : Type 0 where
  pub region : ℕ
  pub is_in : IsIn σ found z region
  pub within : part < length found
  pub joined : AreJoined (AreNeighbours σ found) part region
  pub least : (n : ℕ) → n < length found → AreJoined (AreNeighbours σ found) n region → part ≤ n

module _ (scene : Scene) (is_scene : IsScene scene) where
  part_clear : (z : Vector) (part : ℕ) → IsPoint z → IsPart (scene_seen scene) z part → IsClear (scene_seen scene) z
  part_clear z part hz p = clear_here scene is_scene p.is_map z hz ((decomposed scene is_scene p.is_map).clear p.region z p.is_in.is_region hz p.is_in.holds)

  module _ {σ : Slabs} {found : List Lot} (m : IsMapOf (scene_seen scene) σ found) where
    moved : {τ : Slabs} → AlikeSlabs τ σ → (z : Vector) (part : ℕ) → IsPoint z → IsClear (scene_seen scene) z → IsPartBy τ found z part → IsPartBy σ found z part
    moved {τ} a z part hz c q =
        let (n, it) = (decomposed scene is_scene m).covers z hz (clear_there scene is_scene m z hz c) in
        let e : q.region ≡ n = one_region a found z q.region n hz q.is_in it in
        let next = same_next a found in
        record {
          region = n;
          is_in = it;
          within = q.within;
          joined = subst (λ r. AreJoined (AreNeighbours σ found) part r) e (subst (λ next. AreJoined next part q.region) next q.joined);
          least = λ k within j. q.least k within (subst (λ next. AreJoined next k q.region) (sym next) (subst (λ r. AreJoined (AreNeighbours σ found) k r) (sym e) j));
        }

    pub part_by : (z : Vector) (part : ℕ) → IsPoint z → IsPart (scene_seen scene) z part → IsPartBy σ found z part
    part_by z part hz p =
        let maps = alike_maps (scene_seen scene) (scene_triangles scene is_scene) p.is_map m in
        moved maps.slabs z part hz (part_clear z part hz p)
        (subst (λ regions. IsPartBy p.slabs regions z part) maps.regions (record { region = p.region; is_in = p.is_in; within = p.within; joined = p.joined; least = p.least }))

  -- a point is in one part, by whichever maps
  one_part : (z : Vector) (part other : ℕ) → IsPoint z → IsPart (scene_seen scene) z part → IsPart (scene_seen scene) z other → part ≡ other
  one_part z part other hz p q =
      let next = AreNeighbours p.slabs p.regions in
      let r = part_by p.is_map z other hz q in
      let same = p.is_in.no_other r.region r.is_in.is_region r.is_in.holds in
      let low = p.least other r.within (subst (AreJoined next other) same r.joined) in
      let high = r.least part p.within (subst (AreJoined next part) (sym same) p.joined) in
      omega (arith, low, high)

  -- no part of a start is closed to that of a goal where one of them touches, or both are in one part
  module _ (s g : Vector) (hs : IsPoint s) (hg : IsPoint g) where
    pub start_touched : Touches (scene_seen scene) s → (part : ℕ) → ¬ (IsClosedPart (scene_seen scene) s g part)
    start_touched h part closed = part_clear s part hs closed.is_start h

    pub goal_touched : Touches (scene_seen scene) g → (part : ℕ) → ¬ (IsClosedPart (scene_seen scene) s g part)
    goal_touched h part closed = part_clear g closed.other hg closed.is_goal h

    pub in_one_part : (here : ℕ) → IsPart (scene_seen scene) s here → IsPart (scene_seen scene) g here → (part : ℕ) → ¬ (IsClosedPart (scene_seen scene) s g part)
    in_one_part here from to part closed = closed.differ (one_part s part here hs closed.is_start from ∙ one_part g here closed.other hg to closed.is_goal)

  -- the ring of the component of a region serves each start of the part with the region's number and each goal of another
  pub ring_serves : {σ : Slabs} {found : List Lot} → IsMapOf (scene_seen scene) σ found → (chain : List Segment) → IsLowestAnswer (by_chain chain) → (part : ℕ) → IsRingOf σ found part chain → IsRing scene part chain
  ring_serves {σ} {found} m chain lowest part k = record {
    serves = λ s g hs hg closed.
        let other = closed.other in
        let b = part_by m s part hs closed.is_start in
        let c = part_by m g other hg closed.is_goal in
        chain_reply scene is_scene m s g hs hg chain (ends_points chain lowest) (part_clear s part hs closed.is_start) (part_clear g other hg closed.is_goal) (record {
          from = b.region;
          to = c.region;
          starts = b.is_in;
          ends = c.is_in;
          apart = λ j.
              let low = b.least other c.within (joined_on (AreNeighbours σ found) other c.region b.region c.joined (joined_back σ found b.region c.region j)) in
              let high = c.least part b.within (joined_on (AreNeighbours σ found) part b.region c.region b.joined j) in
              closed.differ (omega (arith, low, high));
          component = k.component;
          is_component = same_component σ found part b.region k.component b.joined k.is_component;
          is_ring = k.is_ring;
        });
    lowest = lowest;
  }

  pub one_ring : (s g t h : Vector) → IsPoint s → IsPoint g → IsPoint t → IsPoint h → (chain : List Segment) → IsLowestAnswer (by_chain chain) → IsReply (scene_seen scene) s g (by_chain chain)
      → (part other : ℕ) → IsPart (scene_seen scene) s part → IsPart (scene_seen scene) t part → IsPart (scene_seen scene) h other → ¬ (part ≡ other) → IsReply (scene_seen scene) t h (by_chain chain)
  one_ring s g t h hs hg ht hh chain lowest reply part other ps pt ph differ =
      let given = reply.is_given in
      let σ = given.slabs in
      let found = given.regions in
      let m = given.is_map in
      let k = given.canonical.2 in
      let a = part_by m s part hs ps in
      let from : AreJoined (AreNeighbours σ found) part k.from = subst (AreJoined (AreNeighbours σ found) part) (k.starts.no_other a.region a.is_in.is_region a.is_in.holds) a.joined in
      let ring : IsRingOf σ found part chain = record { component = k.component; is_component = same_component σ found k.from part k.component (joined_back σ found part k.from from) k.is_component; is_ring = k.is_ring } in
      (ring_serves m chain lowest part ring).serves t h ht hh (record { is_start = pt; other = other; is_goal = ph; differ = differ })
