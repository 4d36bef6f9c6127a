-- The first of a rising row of neighbours whose distance is one less is the least, and there is one; steps to such ones make the first walk.
use Rattle.std.proofs.Common.{◌≡◌, ℕ, suc, ◌≤◌, List, [], ◌∷◌, ◌++◌, Option, Some, All, refl, sym, ap, ◌∙◌, subst, arith}
use Rattle.std.proofs.lemmas.List.{get_or_default, append-nil, append_assoc}
use Rattle.std.proofs.lemmas.List.Elements.{All-contains}
use Rattle.plan_spec.specs.Walks.{IsFirstWalk}
use Rattle.plan_map.specs.Distances.{AreDistancesBelow, Nearer, IsLeastStep, Descends, DescendsFrom}
use Rattle.plan_map.specs.Search.{IsRow, IsFirstOf}
use Rattle.plan_map.proofs.Graph.FirstWalk.{first_is_least, first_walk}

-- ---- one step
module _ {next : ℕ → ℕ → Type 0} {here : ℕ} {row : List ℕ} (is : IsRow next here row) (both_ways : (m n : ℕ) → next m n → next n m) where
  pub step_taken : (dist : ℕ → Option ℕ) (left n : ℕ) → dist here ≡ Some (suc left) → IsFirstOf (λ m. dist m ≡ Some left) row n → IsLeastStep next dist here n
  step_taken dist left n from f = record {
    left = left;
    from = from;
    neighbour = both_ways n here ((is.exact n).0 (f.place, f.within, get_or_default row f.place n 0 f.within ∙ f.is));
    nearer = f.has;
    least = λ m step near.
        let c = (is.exact m).1 (both_ways here m step) in
        let l = first_is_least (λ m. dist m ≡ Some left) row f.place is.rising (λ j d h p. f.earlier j h (subst (λ x. dist x ≡ Some left) (get_or_default row j d 0 (omega (arith, f.within))) p)) m (c.0, m, c.1, c.2, (refl, near)) 0 f.within in
        subst (λ x. x ≤ m) f.is l;
  }

  pub some_step : (dist : ℕ → Option ℕ) (left : ℕ) → ((n d : ℕ) → dist n ≡ Some (suc d) → Nearer next dist n d) → dist here ≡ Some (suc left) → ¬ (All (λ m. ¬ (dist m ≡ Some left)) row)
  some_step dist left down from none =
      let n = down here left from in
      All-contains (λ m. ¬ (dist m ≡ Some left)) row n.at none ((is.exact n.at).1 (both_ways here n.at n.neighbour)) n.nearer

-- ---- a way of steps
-- what is taken so far, and whatever descends from here, descend from the start
pub record IsOnWay (next : ℕ → ℕ → Type 0) (dist : ℕ → Option ℕ) (start here left : ℕ) (taken : List ℕ) : Type 0 where
  pub distance : dist here ≡ Some left
  pub whole : (ns : List ℕ) → Descends next dist here ns → DescendsFrom next dist start (taken ++ ns)

module _ {next : ℕ → ℕ → Type 0} {dist : ℕ → Option ℕ} {start : ℕ} where
  pub way_goes_on : {here left : ℕ} {taken : List ℕ} (n : ℕ) → IsOnWay next dist start here (suc left) taken → IsLeastStep next dist here n → dist n ≡ Some left → IsOnWay next dist start n left (taken ++ n ∷ [])
  way_goes_on {taken = taken} n w s e = record {
    distance = e;
    whole = λ ns d. subst (DescendsFrom next dist start) (sym (append_assoc taken (n ∷ []) ns)) (w.whole (n ∷ ns) (s, d));
  }

  pub way_ends : {here : ℕ} {taken : List ℕ} (goal bound : ℕ) → AreDistancesBelow next goal bound dist → dist start ≡ Some bound → IsOnWay next dist start here 0 taken → IsFirstWalk next start goal taken
  way_ends {taken = taken} goal bound are is w = by taken (subst (DescendsFrom next dist start) (append-nil taken) (w.whole [] w.distance))
    where
      by : (ns : List ℕ) → DescendsFrom next dist start ns → IsFirstWalk next start goal ns
      by [] d = absurd d
      by (n ∷ ns) (e, d) = subst (λ r. IsFirstWalk next r goal (n ∷ ns)) e (first_walk next goal bound dist are n ns d (ap dist e ∙ is))
