-- Between alike slabs with the same regions: a point is in the same region, walks and components are the same.
use Rattle.std.proofs.Common.{◌≡◌, ℕ, ◌<◌, true, List, [], ◌∷◌, length, All, sym, subst}
use Rattle.std.proofs.lemmas.Bool.{and_parts, ltb-true}
use Rattle.std.proofs.lemmas.List.Elements.{All-nil, All-cons}
use Rattle.plan_spec.specs.Vector.{Vector, IsPoint}
use Rattle.plan_spec.specs.Slabs.{Slabs}
use Rattle.plan_spec.specs.Regions.{Lot, IsIn, region_at}
use Rattle.plan_spec.specs.Neighbours.{AreNeighbours}
use Rattle.plan_spec.specs.Walks.{Leads, IsWalk, IsComponent}
use Rattle.plan_ring.proofs.Alike.Slabs.{AlikeSlabs}
use Rattle.plan_ring.proofs.Alike.RegionsSame.{holds_alike, neighbours_same}
use Rattle.plan_ring.proofs.Alike.SlabsLists.{one_rising_list}

pub one_component : (next : ℕ → ℕ → Type 0) (m : ℕ) (ns ks : List ℕ) → IsComponent next m ns → IsComponent next m ks → ns ≡ ks
one_component next m ns ks c d = one_rising_list ns ks c.rising d.rising (λ n. (λ h. (d.members n).1 ((c.members n).0 h), λ h. (c.members n).1 ((d.members n).0 h)))

-- a walk stays among the regions
pub walk_within : (σ : Slabs) (found : List Lot) (m n : ℕ) (walk : List ℕ) → m < length found → IsWalk (AreNeighbours σ found) m n walk → All (λ k. k < length found) walk
walk_within σ found m n [] hm w = absurd w
walk_within σ found m n (k ∷ ks) hm (e, leads) = All-cons (λ k. k < length found) k ks (subst (λ j. j < length found) (sym e) hm) (rest m ks (subst (λ j. Leads (AreNeighbours σ found) n j ks) e leads))
  where
    rest : (m : ℕ) (ks : List ℕ) → Leads (AreNeighbours σ found) n m ks → All (λ k. k < length found) ks
    rest m [] h = All-nil (λ k. k < length found)
    rest m (k ∷ ks) (step, leads) = All-cons (λ k. k < length found) k ks (ltb-true k (length found) (and_parts _ _ (and_parts _ _ step).1).0) (rest k ks leads)

module _ {σ τ : Slabs} (a : AlikeSlabs σ τ) (found : List Lot) where
  pub one_region : (z : Vector) (m n : ℕ) → IsPoint z → IsIn σ found z m → IsIn τ found z n → m ≡ n
  one_region z m n hz is it = it.no_other m is.is_region (holds_alike a (region_at found m) z hz is.holds)

  pub same_next : AreNeighbours σ found ≡ AreNeighbours τ found
  same_next = λ i m n. neighbours_same a found i m n ≡ true
