-- Walks, components and labels of two relations that agree are the same.
use Rattle.std.proofs.Common.{◌≡◌, ℕ, List, [], ◌∷◌, Option, Some, None, MatchOption, subst}
use Rattle.plan_spec.specs.Walks.{Leads, IsWalk, IsFirstWalk, AreJoined, IsComponent}
use Rattle.plan_map.specs.Labels.{AreLabels}

module _ (P Q : ℕ → ℕ → Type 0) (to : (m n : ℕ) → P m n → Q m n) where
  leads_carried : (n m : ℕ) (ks : List ℕ) → Leads P n m ks → Leads Q n m ks
  leads_carried n m [] e = e
  leads_carried n m (k ∷ ks) (step, rest) = (to m k step, leads_carried n k ks rest)

  walk_carried : (m n : ℕ) (walk : List ℕ) → IsWalk P m n walk → IsWalk Q m n walk
  walk_carried m n [] w = w
  walk_carried m n (k ∷ ks) (e, leads) = (e, leads_carried n k ks leads)

  pub joined_carried : (m n : ℕ) → AreJoined P m n → AreJoined Q m n
  joined_carried m n (walk, w) = (walk, walk_carried m n walk w)

module _ (P Q : ℕ → ℕ → Type 0) (to : (m n : ℕ) → P m n → Q m n) (from : (m n : ℕ) → Q m n → P m n) where
  first_walk_carried : (m n : ℕ) (walk : List ℕ) → IsFirstWalk P m n walk → IsFirstWalk Q m n walk
  first_walk_carried m n walk f = record {
    is_walk = walk_carried P Q to m n walk f.is_walk;
    first = λ other w. f.first other (walk_carried Q P from m n other w);
  }

  -- the first walk, or none
  pub search_carried : {A : Type 0} (items : A → List ℕ) (m n : ℕ) (o : Option A) → MatchOption o (¬ (AreJoined P m n)) (λ t. IsFirstWalk P m n (items t)) → MatchOption o (¬ (AreJoined Q m n)) (λ t. IsFirstWalk Q m n (items t))
  search_carried items m n None h = λ j. h (joined_carried Q P from m n j)
  search_carried items m n (Some t) h = first_walk_carried m n (items t) h

  pub component_carried : (m : ℕ) (ns : List ℕ) → IsComponent P m ns → IsComponent Q m ns
  component_carried m ns c = record {
    rising = c.rising;
    members = λ n. (λ h. joined_carried P Q to m n ((c.members n).0 h), λ j. (c.members n).1 (joined_carried Q P from m n j));
  }

  pub labels_carried : (count : ℕ) (labels : List ℕ) → AreLabels P count labels → AreLabels Q count labels
  labels_carried count labels l = record {
    size = l.size;
    below = l.below;
    joined = λ n h. joined_carried P Q to _ n (l.joined n h);
    same = λ m n hm hn j. l.same m n hm hn (joined_carried Q P from m n j);
    least = λ m n hm hn j. l.least m n hm hn (joined_carried Q P from m n j);
  }

-- ---- the cases of a result
pub at_some : {A : Type 0} (P : Type 0) (Q : A → Type 0) (o : Option A) (x : A) → o ≡ Some x → MatchOption o P Q → Q x
at_some P Q o x e h = subst (λ o. MatchOption o P Q) e h

pub at_none : {A : Type 0} (P : Type 0) (Q : A → Type 0) (o : Option A) → o ≡ None → MatchOption o P Q → P
at_none P Q o e h = subst (λ o. MatchOption o P Q) e h
