-- What walks join is joined both ways, and by way of a third.
use Rattle.std.proofs.Common.{◌≡◌, ◌<◌, ℕ, List, [], ◌∷◌, get_or, refl, sym, subst}
use Rattle.plan_spec.specs.Neighbours.{AreNeighbours}
use Rattle.plan_spec.specs.Regions.{Lot}
use Rattle.plan_spec.specs.Slabs.{Slabs}
use Rattle.plan_spec.specs.Walks.{Leads, AreJoined, IsComponent}
use Rattle.plan_map.specs.Labels.{AreLabels}
use Rattle.plan_map.proofs.Graph.Joined.{leads_of, one_step_on, joined_on}
use Rattle.plan_map.proofs.Graph.RegionRows.{neighbours_turned}

module _ (σ : Slabs) (found : List Lot) where
  abbrev Next : ℕ → ℕ → Type 0
  Next = AreNeighbours σ found

  walked_back : (m n : ℕ) (ns : List ℕ) → Leads Next n m ns → AreJoined Next n m
  walked_back m n [] e = (n ∷ [], (refl, sym e))
  walked_back m n (x ∷ ns) (step, rest) = one_step_on Next n x m (walked_back x n ns rest) (neighbours_turned σ found m x step)

  pub joined_back : (m n : ℕ) → AreJoined Next m n → AreJoined Next n m
  joined_back m n j = let (ns, leads) = leads_of Next m n j in walked_back m n ns leads

  -- the component of one is that of the other
  pub same_component : (m n : ℕ) (ns : List ℕ) → AreJoined Next m n → IsComponent Next m ns → IsComponent Next n ns
  same_component m n ns j c = record { rising = c.rising; members = λ k. (λ h. joined_on Next n m k (joined_back m n j) ((c.members k).0 h), λ h. (c.members k).1 (joined_on Next m n k j h)) }

  -- of one label, so joined
  pub same_label : (count : ℕ) (labels : List ℕ) → AreLabels Next count labels → (m n : ℕ) → m < count → n < count → get_or labels m 0 ≡ get_or labels n 0 → AreJoined Next m n
  same_label count labels l m n hm hn e = joined_on Next m (get_or labels m 0) n (joined_back (get_or labels m 0) m (l.joined m hm)) (subst (λ k. AreJoined Next k n) (sym e) (l.joined n hn))
