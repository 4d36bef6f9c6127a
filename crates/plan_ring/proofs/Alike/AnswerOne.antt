-- The path, or the chain, that is given is one by position: by alike slabs with the same regions.
use Rattle.std.proofs.Common.{◌≡◌, ℕ, ◌<◌, List, length, get_or, All, sym, subst}
use Rattle.std.specs.List.{AllZip}
use Rattle.plan_spec.specs.Vector.{Vector, IsPoint, Same}
use Rattle.plan_spec.specs.Segment.{Segment, HasPoints}
use Rattle.plan_spec.specs.Answers.{IsCanonicalPath, IsCanonicalChain}
use Rattle.plan_spec.specs.Slabs.{Slabs}
use Rattle.plan_spec.specs.Regions.{Lot, spot_of, region_at}
use Rattle.plan_spec.specs.Neighbours.{AreNeighbours}
use Rattle.plan_spec.specs.Paths.{path_along}
use Rattle.plan_spec.specs.Rings.{ring}
use Rattle.plan_spec.specs.Walks.{IsFirstWalk, IsComponent, AreJoined}
use Rattle.plan_plane.proofs.Segment.Same.{Same-swapped, Same-trans}
use Rattle.plan_map.proofs.Graph.FirstWalk.{one_walk}
use Rattle.plan_ring.specs.Alike.{AlikePoints, AlikeSegment}
use Rattle.plan_ring.proofs.Alike.Boundary.{segment_swapped}
use Rattle.plan_ring.proofs.Alike.Slabs.{AlikeSlabs, mark_ends}
use Rattle.plan_ring.proofs.Alike.SlabsGround.{segment_trans}
use Rattle.plan_ring.proofs.Alike.SlabsLists.{zip_trans, zip_swapped}
use Rattle.plan_ring.proofs.Alike.AnswerPaths.{path_points, path_alike, ring_alike, ring_points}
use Rattle.plan_ring.proofs.Alike.AnswerWalks.{one_component, walk_within, one_region, same_next}

-- each region has its point
abbrev pub HasSpotsOf : Slabs → List Lot → Type 0
HasSpotsOf σ found = (n : ℕ) → n < length found → IsPoint (spot_of σ (region_at found n))

-- three lists of points, and of segments
pub points_trans : (ps qs rs : List Vector) → All IsPoint qs → AlikePoints ps qs → AlikePoints qs rs → AlikePoints ps rs
points_trans ps qs rs = zip_trans Same IsPoint (λ x y z hy e f. Same-trans x y z hy e f) ps qs rs

pub segments_trans : (ss ts us : List Segment) → All HasPoints ts → AllZip AlikeSegment ss ts → AllZip AlikeSegment ts us → AllZip AlikeSegment ss us
segments_trans ss ts us = zip_trans AlikeSegment HasPoints (λ x y z hy e f. segment_trans x y z hy e f) ss ts us

module _ {σ τ : Slabs} (a : AlikeSlabs σ τ) (found : List Lot) (s g : Vector) (hs : IsPoint s) (hg : IsPoint g) where
  pub one_path : HasSpotsOf σ found → HasSpotsOf τ found → (p q : List Vector) → IsCanonicalPath σ found s g p → IsCanonicalPath τ found s g q → AlikePoints p q
  one_path spots others p q c d =
      let from = one_region a found s c.from d.from hs c.starts d.starts in
      let to = one_region a found g c.to d.to hg c.ends d.ends in
      let first : IsFirstWalk (AreNeighbours τ found) d.from d.to c.walk = moved_first from to in
      let walk : c.walk ≡ d.walk = one_walk (AreNeighbours τ found) d.from d.to c.walk d.walk first d.is_first in
      let within = walk_within σ found c.from c.to c.walk c.starts.is_region c.is_first.is_walk in
      let here : All (λ n. IsPoint (spot_of σ (region_at found n))) c.walk = λ k e below. spots (get_or c.walk k e) (within k e below) in
      let there : All (λ n. IsPoint (spot_of τ (region_at found n))) c.walk = λ k e below. others (get_or c.walk k e) (within k e below) in
      let by_first = path_along σ found s g c.walk in
      let by_second = path_along τ found s g c.walk in
      points_trans p by_first q (path_points σ found s g c.walk hs hg here) c.is_path
      (points_trans by_first by_second q (path_points τ found s g c.walk hs hg there) (path_alike a found s g c.walk hs hg here there)
      (subst (λ w. AlikePoints (path_along τ found s g w) q) (sym walk) (zip_swapped Same Same-swapped q (path_along τ found s g d.walk) d.is_path)))
    where
      moved_first : c.from ≡ d.from → c.to ≡ d.to → IsFirstWalk (AreNeighbours τ found) d.from d.to c.walk
      moved_first e f = subst (λ m. IsFirstWalk (AreNeighbours τ found) m d.to c.walk) e (subst (λ n. IsFirstWalk (AreNeighbours τ found) c.from n c.walk) f (subst (λ next. IsFirstWalk next c.from c.to c.walk) (same_next a found) c.is_first))

  pub one_chain : (p q : List Segment) → IsCanonicalChain σ found s g p → IsCanonicalChain τ found s g q → AllZip AlikeSegment p q
  one_chain p q c d =
      let from = one_region a found s c.from d.from hs c.starts d.starts in
      let moved : IsComponent (AreNeighbours τ found) d.from c.component = subst (λ m. IsComponent (AreNeighbours τ found) m c.component) from (subst (λ next. IsComponent next c.from c.component) (same_next a found) c.is_component) in
      let same : c.component ≡ d.component = one_component (AreNeighbours τ found) d.from c.component d.component moved d.is_component in
      let by_first = ring σ found c.component in
      let by_second = ring τ found c.component in
      segments_trans p by_first q (ring_points σ found (λ k j. (mark_ends a k j).0) c.component) c.is_ring
      (segments_trans by_first by_second q (ring_points τ found (λ k j. (mark_ends a k j).1) c.component) (ring_alike a found c.component)
      (subst (λ ns. AllZip AlikeSegment (ring τ found ns) q) (sym same) (zip_swapped AlikeSegment segment_swapped q (ring τ found d.component) d.is_ring)))

  -- a path and a chain are not both given
  pub not_both : (p : List Vector) (q : List Segment) → IsCanonicalPath σ found s g p → ¬ (IsCanonicalChain τ found s g q)
  not_both p q c d =
      let from = one_region a found s c.from d.from hs c.starts d.starts in
      let to = one_region a found g c.to d.to hg c.ends d.ends in
      d.apart (subst (λ m. AreJoined (AreNeighbours τ found) m d.to) from (subst (λ n. AreJoined (AreNeighbours τ found) c.from n) to (subst (λ next. AreJoined next c.from c.to) (same_next a found) (c.walk, c.is_first.is_walk))))

  pub not_both_too : (p : List Segment) (q : List Vector) → IsCanonicalChain σ found s g p → ¬ (IsCanonicalPath τ found s g q)
  not_both_too p q c d =
      let from = one_region a found s c.from d.from hs c.starts d.starts in
      let to = one_region a found g c.to d.to hg c.ends d.ends in
      let joined : AreJoined (AreNeighbours σ found) d.from d.to = subst (λ next. AreJoined next d.from d.to) (sym (same_next a found)) (d.walk, d.is_first.is_walk) in
      c.apart (subst (λ m. AreJoined (AreNeighbours σ found) m c.to) (sym from) (subst (λ n. AreJoined (AreNeighbours σ found) d.from n) (sym to) joined))
