-- The regions that walks join to one have their neighbours among them; so their ring is accepted for a point of one of them and a point of any other region.
use Rattle.std.proofs.Common.{◌≡◌, ℕ, ◌<◌, true, List, [], ◌∷◌, length, All, eqb, refl, sym, ◌∙◌, subst}
use Rattle.std.proofs.lemmas.Bool.{and_parts, and_from, or_left, or_right, ltb-true, lt-ltb, eq-eqb, false_from_ne_true}
use Rattle.std.proofs.lemmas.Bool.Decides.{same_from_decides}
use Rattle.std.proofs.lemmas.List.Elements.{All-append, All-nil, All-weaker}
use Rattle.std.specs.List.{flat_map}
use Rattle.plan_spec.specs.Vector.{Vector, IsPoint}
use Rattle.plan_spec.specs.Segment.{Segment, HasPoints}
use Rattle.plan_spec.specs.Frame.{Frame}
use Rattle.plan_spec.specs.Neighbours.{beside, AreNeighbours}
use Rattle.plan_spec.specs.Regions.{Lot, Holds, region_at}
use Rattle.plan_spec.specs.Reply.{IsTight, IsSound, IsAccepted}
use Rattle.plan_spec.specs.Rings.{kept, ring}
use Rattle.plan_spec.specs.Slabs.{Slabs}
use Rattle.plan_spec.specs.Walks.{Leads, AreJoined, IsComponent}
use Rattle.plan_slab.specs.Decomposition.{IsDecomposition}
use Rattle.plan_map.proofs.Graph.Joined.{one_step_on}
use Rattle.plan_map.proofs.Graph.RegionRows.{neighbours_turned}
use Rattle.plan_ring.proofs.Closed.{IsWhole, ring_closed}
use Rattle.plan_ring.proofs.Ends.{has, has_true, has_from}
use Rattle.plan_ring.proofs.Odd.{ring_odd}
use Rattle.plan_ring.proofs.Tight.{IsGood, kept_good}

module _ (σ : Slabs) (found : List Lot) where
  pub are_regions : (m n : ℕ) → AreNeighbours σ found m n → (m < length found) × (n < length found)
  are_regions m n e =
      let p = and_parts _ _ e in
      let q = and_parts _ _ p.1 in
      (ltb-true m (length found) p.0, ltb-true n (length found) q.0)

  neighbours_from : (m n : ℕ) → m < length found → n < length found → beside σ (region_at found m) (region_at found n) ≡ true → AreNeighbours σ found m n
  neighbours_from m n hm hn e = and_from _ _ (lt-ltb m (length found) hm) (and_from _ _ (lt-ltb n (length found) hn) (or_left _ _ e))

  -- a walk ends in a region
  ends_in : (m n : ℕ) → m < length found → (ks : List ℕ) → Leads (AreNeighbours σ found) n m ks → n < length found
  ends_in m n hm [] e = subst (λ n. n < length found) e hm
  ends_in m n hm (k ∷ ks) (go, rest) = ends_in k n (are_regions m k go).1 ks rest

  pub joined_in : (m n : ℕ) → m < length found → AreJoined (AreNeighbours σ found) m n → n < length found
  joined_in m n hm ([], w) = absurd w
  joined_in m n hm (k ∷ ks, (e, leads)) = ends_in k n (subst (λ k. k < length found) (sym e) hm) ks leads

  pub whole : (m : ℕ) (ns : List ℕ) → m < length found → IsComponent (AreNeighbours σ found) m ns → IsWhole σ found ns
  whole m ns hm c = record {
    rises = c.rising;
    within = λ n e. joined_in m n hm ((c.members n).0 (has_from ns n e));
    together = λ n k hn hk e.
        let step = neighbours_from n k hn hk e in
        same_from_decides {P = AreJoined (AreNeighbours σ found) m n} (has ns n) (has ns k) (decided n)
        ((λ h. one_step_on (AreNeighbours σ found) m k n ((decided k).0 h) (neighbours_turned σ found n k step)), λ j. (decided k).1 (one_step_on (AreNeighbours σ found) m n k j step));
  }
    where
      decided : (n : ℕ) → (has ns n ≡ true → AreJoined (AreNeighbours σ found) m n) × (AreJoined (AreNeighbours σ found) m n → has ns n ≡ true)
      decided n = (λ h. (c.members n).0 (has_from ns n h), λ j. has_true ns n ((c.members n).1 j))

-- ---- all that is kept of the listed regions
all_flat : (P : Segment → Type 0) (ss : ℕ → List Segment) (ns : List ℕ) → ((n : ℕ) → has ns n ≡ true → All P (ss n)) → All P (flat_map ss ns)
all_flat P ss [] h = All-nil P
all_flat P ss (n ∷ ns) h = All-append P (ss n) (flat_map ss ns) (h n (or_left (eqb n n) (has ns n) (eq-eqb n n refl))) (all_flat P ss ns (λ m e. h m (or_right (eqb n m) (has ns m) e)))

module _ {sums : List (List Vector)} {room : Frame} {σ : Slabs} {found : List Lot} (d : IsDecomposition sums room σ found) (m : ℕ) (ns : List ℕ) (hm : m < length found) (c : IsComponent (AreNeighbours σ found) m ns) where
  good : All (IsGood sums room) (ring σ found ns)
  good = all_flat (IsGood sums room) (λ n. kept σ found (region_at found n)) ns (λ n e. kept_good d n ((whole σ found m ns hm c).within n e))

  pub ring_points : All HasPoints (ring σ found ns)
  ring_points = All-weaker (IsGood sums room) HasPoints (λ s g. g.0) (ring σ found ns) good

  pub ring_accepted : (s g : Vector) (n : ℕ) → IsPoint s → IsPoint g → n < length found → Holds σ (region_at found m) s → Holds σ (region_at found n) g → ¬ (AreJoined (AreNeighbours σ found) m n) → IsAccepted (IsTight sums room) s g (ring σ found ns)
  ring_accepted s g n hs hg hn is it apart =
      let w = whole σ found m ns hm c in
      record {
        sound = All-weaker (IsGood sums room) (IsSound (IsTight sums room)) (λ s g. g.1) (ring σ found ns) good;
        closed = ring_closed d ns w;
        odd = ring_odd d ns s m w hs hm is ∙ has_true ns m ((c.members m).1 (m ∷ [], (refl, refl)));
        even = ring_odd d ns g n w hg hn it ∙ false_from_ne_true (has ns n) (λ e. apart ((c.members n).0 (has_from ns n e)));
      }
