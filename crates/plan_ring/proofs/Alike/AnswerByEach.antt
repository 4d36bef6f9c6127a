-- The answer that is given by one map is given by each map of the scene: regions, walks and rings are the same in alike slabs.
use Rattle.std.proofs.Common.{ℕ, List, get_or, All, sym, subst}
use Rattle.plan_spec.specs.Vector.{Vector, IsPoint, Same}
use Rattle.plan_spec.specs.Segment.{Segment}
use Rattle.plan_spec.specs.Answers.{Answer, start_touches, goal_touches, by_path, by_chain, IsCanonical, IsCanonicalPath, IsCanonicalChain}
use Rattle.plan_spec.specs.Placement.{Scene}
use Rattle.plan_spec.specs.Slabs.{Slabs, spans_of, marks_of}
use Rattle.plan_spec.specs.Regions.{Lot, IsIn, spot_of, region_at}
use Rattle.plan_spec.specs.Paths.{path_along}
use Rattle.plan_spec.specs.Rings.{ring}
use Rattle.plan_spec.specs.Walks.{IsFirstWalk, IsComponent, AreJoined}
use Rattle.plan_plane.proofs.Segment.Same.{Same-swapped}
use Rattle.plan_ring.specs.Alike.{AlikeSegment}
use Rattle.plan_ring.proofs.Alike.Boundary.{segment_swapped}
use Rattle.plan_ring.proofs.Alike.Slabs.{AlikeSlabs, mark_ends}
use Rattle.plan_ring.proofs.Alike.SlabsLists.{zip_swapped}
use Rattle.plan_ring.proofs.Alike.RegionsSame.{holds_alike}
use Rattle.plan_ring.proofs.Alike.AnswerPaths.{path_points, path_alike, ring_alike, ring_points}
use Rattle.plan_ring.proofs.Alike.AnswerWalks.{walk_within, same_next}
use Rattle.plan_ring.proofs.Alike.AnswerOne.{HasSpotsOf, points_trans, segments_trans}

pub swapped_slabs : {σ τ : Slabs} → AlikeSlabs σ τ → AlikeSlabs τ σ
swapped_slabs {σ} {τ} a = record {
  lines = sym a.lines;
  slab_count = sym a.slab_count;
  line_count = sym a.line_count;
  spans = λ k. zip_swapped AlikeSegment segment_swapped (spans_of σ k) (spans_of τ k) (a.spans k);
  marks = λ k. zip_swapped Same Same-swapped (marks_of σ k) (marks_of τ k) (a.marks k);
  span_points = λ k. ((a.span_points k).1, (a.span_points k).0);
  mark_points = λ k. ((a.mark_points k).1, (a.mark_points k).0);
}

module _ {σ τ : Slabs} (a : AlikeSlabs σ τ) (found : List Lot) where
  -- the region of a point
  pub in_alike : (z : Vector) (n : ℕ) → IsPoint z → IsIn σ found z n → IsIn τ found z n
  in_alike z n hz is = record { is_region = is.is_region; holds = holds_alike a (region_at found n) z hz is.holds; no_other = λ m hm h. is.no_other m hm (holds_alike (swapped_slabs a) (region_at found m) z hz h) }

  module _ (s g : Vector) (hs : IsPoint s) (hg : IsPoint g) where
    path_too : HasSpotsOf σ found → HasSpotsOf τ found → (p : List Vector) → IsCanonicalPath σ found s g p → IsCanonicalPath τ found s g p
    path_too spots others p c =
        let within = walk_within σ found c.from c.to c.walk c.starts.is_region c.is_first.is_walk in
        let here : All (λ n. IsPoint (spot_of σ (region_at found n))) c.walk = λ k e below. spots (get_or c.walk k e) (within k e below) in
        let there : All (λ n. IsPoint (spot_of τ (region_at found n))) c.walk = λ k e below. others (get_or c.walk k e) (within k e below) in
        record {
          from = c.from;
          to = c.to;
          starts = in_alike s c.from hs c.starts;
          ends = in_alike g c.to hg c.ends;
          walk = c.walk;
          is_first = subst (λ next. IsFirstWalk next c.from c.to c.walk) (same_next a found) c.is_first;
          is_path = points_trans p (path_along σ found s g c.walk) (path_along τ found s g c.walk) (path_points σ found s g c.walk hs hg here) c.is_path (path_alike a found s g c.walk hs hg here there);
        }

    chain_too : (p : List Segment) → IsCanonicalChain σ found s g p → IsCanonicalChain τ found s g p
    chain_too p c = record {
      from = c.from;
      to = c.to;
      starts = in_alike s c.from hs c.starts;
      ends = in_alike g c.to hg c.ends;
      apart = subst (λ next. ¬ (AreJoined next c.from c.to)) (same_next a found) c.apart;
      component = c.component;
      is_component = subst (λ next. IsComponent next c.from c.component) (same_next a found) c.is_component;
      is_ring = segments_trans p (ring σ found c.component) (ring τ found c.component) (ring_points σ found (λ k j. (mark_ends a k j).0) c.component) c.is_ring (ring_alike a found c.component);
    }

    pub answer_too : (scene : Scene) → HasSpotsOf σ found → HasSpotsOf τ found → (answer : Answer) → IsCanonical scene σ found s g answer → IsCanonical scene τ found s g answer
    answer_too scene spots others (start_touches n) c = c
    answer_too scene spots others (goal_touches n) c = c
    answer_too scene spots others (by_path p) c = (c.0, c.1, path_too spots others p c.2)
    answer_too scene spots others (by_chain p) c = (c.0, c.1, chain_too p c.2)
