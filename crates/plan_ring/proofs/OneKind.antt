-- Of two clear points exactly one kind of answer exists: a path along a walk between their regions, or the ring of the component of the first.
use Rattle.std.proofs.Common.{◌⊎◌, inl, inr, ℕ, List, length, arith}
use Rattle.plan_exact.proofs.Laws.{linear}
use Rattle.plan_spec.specs.Vector.{Vector, IsPoint}
use Rattle.plan_spec.specs.Frame.{Frame}
use Rattle.plan_spec.specs.Neighbours.{neighbours, AreNeighbours}
use Rattle.plan_spec.specs.Paths.{path_along}
use Rattle.plan_spec.specs.Placement.{Scene, IsClear}
use Rattle.plan_spec.specs.Regions.{Lot, IsIn}
use Rattle.plan_spec.specs.Rings.{ring}
use Rattle.plan_spec.specs.Slabs.{Slabs}
use Rattle.plan_spec.specs.Walks.{AreJoined}
use Rattle.plan_check.proofs.ChainFaults.{passed, blocks}
use Rattle.plan_cross.proofs.ParityLaw.Route.{no_clear_polyline}
use Rattle.plan_map.proofs.Path.Walk.{path_clear}
use Rattle.plan_slab.specs.Decomposition.{IsDecomposition, IsFloorOf}
use Rattle.plan_slab.proofs.Decomposition.{decomposition, clear_of, not_touched}
use Rattle.plan_slab.proofs.Pieces.{has_pieces}
use Rattle.plan_slab.proofs.Sorted.Exist.{slabs_exist, regions_exist}
use Rattle.plan_ring.specs.Laws.{CanonicalChainIsRight, OneKindOfAnswer, HasPath, HasChain}
use Rattle.plan_ring.proofs.ByPosition.{accepted_alike}
use Rattle.plan_ring.proofs.Component.{are_regions, joined_in, ring_points, ring_accepted}
use Rattle.plan_ring.proofs.Reach.{joined_or_not, component}

module _ (scene : Scene) {sums : List (List Vector)} {room : Frame} {σ : Slabs} {found : List Lot} (floor : IsFloorOf scene sums room) (d : IsDecomposition sums room σ found) (s g : Vector) (hs : IsPoint s) (hg : IsPoint g) where
  one_or_the_other : (m n : ℕ) → IsIn σ found s m → IsIn σ found g n → HasPath scene s g ⊎ HasChain scene s g
  one_or_the_other m n is it = by (joined_or_not (neighbours σ found) (length found) (are_regions σ found) m n)
    where
      by : AreJoined (AreNeighbours σ found) m n ⊎ (¬ (AreJoined (AreNeighbours σ found) m n)) → HasPath scene s g ⊎ HasChain scene s g
      by (inl (walk, w)) = inl (path_along σ found s g walk, path_clear scene floor d m n s g walk is.is_region hs hg is.holds it.holds w)
      by (inr apart) =
          let (ns, c) = component (neighbours σ found) (length found) (are_regions σ found) m (λ k j. joined_in σ found m k is.is_region j) in
          let accepted = ring_accepted d m ns is.is_region c s g n hs hg it.is_region is.holds it.holds apart in
          inr (ring σ found ns, (blocks sums room s g (ring σ found ns) scene floor.touches hs hg (passed sums room s g (ring σ found ns) (ring_points d m ns is.is_region c) accepted)).blocks)

  pub answered : IsClear scene s → IsClear scene g → HasPath scene s g ⊎ HasChain scene s g
  answered cs cg =
      let (m, is) = d.covers s hs (clear_of sums room s (λ t. cs ((floor.touches s hs).1 t))) in
      let (n, it) = d.covers g hg (clear_of sums room g (λ t. cg ((floor.touches g hg).1 t))) in
      one_or_the_other m n is it

pub canonical_chain : CanonicalChainIsRight
canonical_chain scene sums room pieces σ found floor has regions s g chain hs hg points c =
    let d = decomposition has regions in
    let m = c.from in
    let low : IsPoint room.low = omega (arith, linear, floor.floor.spots.low) in
    let high : IsPoint room.high = omega (arith, linear, floor.floor.spots.high) in
    let ring_ok = ring_accepted d m c.component c.starts.is_region c.is_component s g c.to hs hg c.ends.is_region c.starts.holds c.ends.holds c.apart in
    let accepted = accepted_alike sums room low high chain (ring σ found c.component) s g hs hg points (ring_points d m c.component c.starts.is_region c.is_component) c.is_ring ring_ok in
    let b = blocks sums room s g chain scene floor.touches hs hg (passed sums room s g chain points accepted) in (
      accepted,
      record {
        start = λ t. not_touched sums room s (d.clear m s c.starts.is_region hs c.starts.holds) ((floor.touches s hs).0 t);
        goal = λ t. not_touched sums room g (d.clear c.to g c.ends.is_region hg c.ends.holds) ((floor.touches g hg).0 t);
        blocks = b.blocks;
        all_cross = b.crossed;
        none_clear = no_clear_polyline scene s g chain hs hg b.blocks;
      },
    )

pub one_kind : OneKindOfAnswer
one_kind scene sums room pieces floor bound s g hs hg cs cg =
    let (σ, are) = slabs_exist (has_pieces floor.floor bound) in
    let (found, regions) = regions_exist sums room σ in
    (answered scene floor (decomposition (record { floor = floor.floor; bound = bound; slabs = are }) regions) s g hs hg cs cg, λ p c. no_clear_polyline scene s g c.0 hs hg c.1 p.0 p.1)
