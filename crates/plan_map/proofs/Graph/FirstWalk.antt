-- The walk that always takes the least neighbour whose distance is one less is the first of the shortest; and the first is one walk.
use Rattle.std.proofs.Common.{◌≡◌, ℕ, suc, ◌≤◌, ◌<◌, ◌⊎◌, inl, inr, List, [], ◌∷◌, length, get_or, AllPairs, Any, Option, Some, refl, sym, ap, ap₂, ◌∙◌, subst, arith}
use Rattle.std.proofs.lemmas.Bool.{cases_eq, cases_lt, cases_order}
use Rattle.std.proofs.lemmas.List.{get_or_default}
use Rattle.plan_spec.specs.Walks.{Leads, IsWalk, NotAfter, IsFirstWalk}
use Rattle.plan_map.specs.Distances.{AreDistancesBelow, Descends}
use Rattle.plan_map.proofs.Graph.Distances.{same_some, no_shorter_below}

pub descends_length : (next : ℕ → ℕ → Type 0) (dist : ℕ → Option ℕ) (r : ℕ) (ns : List ℕ) → Descends next dist r ns → dist r ≡ Some (length ns)
descends_length next dist r [] e = e
descends_length next dist r (n ∷ ns) (s, rest) = s.from ∙ ap (λ k. Some (suc k)) (same_some s.left (length ns) (sym s.nearer ∙ descends_length next dist n ns rest))

pub descends_leads : (next : ℕ → ℕ → Type 0) (goal bound : ℕ) (dist : ℕ → Option ℕ) → AreDistancesBelow next goal bound dist → (r : ℕ) (ns : List ℕ) → Descends next dist r ns → Leads next goal r ns
descends_leads next goal bound dist are r [] e = are.only_goal r e
descends_leads next goal bound dist are r (n ∷ ns) (s, rest) = (s.neighbour, descends_leads next goal bound dist are n ns rest)

-- of a walk as long, the steps are not after
not_after : (next : ℕ → ℕ → Type 0) (goal bound : ℕ) (dist : ℕ → Option ℕ) → AreDistancesBelow next goal bound dist → (r : ℕ) (ns ms : List ℕ) → Descends next dist r ns → Leads next goal r ms → length ns ≡ length ms → length ns ≤ bound → NotAfter ns ms
not_after next goal bound dist are r [] ms e leads long few = tt
not_after next goal bound dist are r (n ∷ ns) [] (s, rest) leads long few = absurd (omega arith)
not_after next goal bound dist are r (n ∷ ns) (m ∷ ms) (s, rest) (step, leads) long few = by (λ e. not_after next goal bound dist are n ns ms rest (subst (λ m. Leads next goal m ms) (sym e) leads) (omega arith) (omega (arith, few))) (cases_lt n m)
  where
    rest_long : s.left ≡ length ns
    rest_long = same_some s.left (length ns) (sym s.nearer ∙ descends_length next dist n ns rest)

    -- m is one step nearer too
    near : dist m ≡ Some s.left
    near =
        let w = no_shorter_below next goal bound dist are m ms leads (omega (arith, few, long)) in
        w.is_some ∙ ap Some (level w.distance w.is_some (omega (arith, w.at_most, long, rest_long)) (cases_lt w.distance s.left))
      where
        level : (d : ℕ) → dist m ≡ Some d → d ≤ s.left → (d < s.left) ⊎ (s.left ≤ d) → d ≡ s.left
        level d e most (inr g) = omega (arith, most, g)
        level d e most (inl l) =
            let v = are.around r m d step e (omega (arith, l, rest_long, few)) in
            absurd (omega (arith, l, v.at_most, same_some (suc s.left) v.distance (sym s.from ∙ v.is_some)))

    by : (n ≡ m → NotAfter ns ms) → (n < m) ⊎ (m ≤ n) → NotAfter (n ∷ ns) (m ∷ ms)
    by again (inl l) = inl l
    by again (inr g) =
        let e : n ≡ m = omega (arith, s.least m step near) in
        inr (e, again e)

pub first_walk : (next : ℕ → ℕ → Type 0) (goal bound : ℕ) (dist : ℕ → Option ℕ) → AreDistancesBelow next goal bound dist → (r : ℕ) (ns : List ℕ) → Descends next dist r ns → dist r ≡ Some bound → IsFirstWalk next r goal (r ∷ ns)
first_walk next goal bound dist are r ns d is = record { is_walk = (refl, descends_leads next goal bound dist are r ns d); first = first }
  where
    exact : length ns ≡ bound
    exact = same_some (length ns) bound (sym (descends_length next dist r ns d) ∙ is)

    first : (other : List ℕ) → IsWalk next r goal other → (length (r ∷ ns) < length other) ⊎ ((length (r ∷ ns) ≡ length other) × NotAfter (r ∷ ns) other)
    first [] w = absurd w
    first (m ∷ ms) (e, leads) = by (cases_order (length ns) (length ms))
      where
        from_r : Leads next goal r ms
        from_r = subst (λ m. Leads next goal m ms) e leads

        by : (length ns ≡ length ms) ⊎ ((length ns < length ms) ⊎ (length ms < length ns)) → (length (r ∷ ns) < length (m ∷ ms)) ⊎ ((length (r ∷ ns) ≡ length (m ∷ ms)) × NotAfter (r ∷ ns) (m ∷ ms))
        by (inl long) = inr (ap suc long, inr (sym e, not_after next goal bound dist are r ns ms d from_r long (omega (arith, exact))))
        by (inr (inl l)) = inl (omega arith)
        by (inr (inr l)) =
            let w = no_shorter_below next goal bound dist are r ms from_r (omega (arith, l, exact)) in
            absurd (omega (arith, l, exact, w.at_most, same_some bound w.distance (sym is ∙ w.is_some)))

-- ---- the first is one
both_ways : (ns ms : List ℕ) → length ns ≡ length ms → NotAfter ns ms → NotAfter ms ns → ns ≡ ms
both_ways [] [] e h k = refl
both_ways [] (m ∷ ms) e h k = absurd (omega arith)
both_ways (n ∷ ns) [] e h k = absurd (omega arith)
both_ways (n ∷ ns) (m ∷ ms) e (inl l) (inl g) = absurd (omega arith)
both_ways (n ∷ ns) (m ∷ ms) e (inl l) (inr (f, g)) = absurd (omega arith)
both_ways (n ∷ ns) (m ∷ ms) e (inr (f, l)) (inl g) = absurd (omega arith)
both_ways (n ∷ ns) (m ∷ ms) e (inr (f, l)) (inr (g, k)) = ap₂ (λ x xs. x ∷ xs) f (both_ways ns ms (omega arith) l k)

pub one_walk : (next : ℕ → ℕ → Type 0) (r goal : ℕ) (ns ms : List ℕ) → IsFirstWalk next r goal ns → IsFirstWalk next r goal ms → ns ≡ ms
one_walk next r goal ns ms f g = by (f.first ms g.is_walk) (g.first ns f.is_walk)
  where
    by : (length ns < length ms) ⊎ ((length ns ≡ length ms) × NotAfter ns ms) → (length ms < length ns) ⊎ ((length ms ≡ length ns) × NotAfter ms ns) → ns ≡ ms
    by (inl l) (inl k) = absurd (omega arith)
    by (inl l) (inr k) = absurd (omega (arith, k.0))
    by (inr l) (inl k) = absurd (omega (arith, l.0))
    by (inr l) (inr k) = both_ways ns ms l.0 l.1 k.1

-- ---- the least of a rising list that passes a test is the first that does
pub first_is_least : (P : ℕ → Type 0) (xs : List ℕ) (k : ℕ) → AllPairs (λ m n. m < n) xs → ((j : ℕ) (d : ℕ) → j < k → ¬ (P (get_or xs j d))) → (m : ℕ) → Any (λ x. (x ≡ m) × P x) xs → (d : ℕ) → k < length xs → get_or xs k d ≤ m
first_is_least P xs k rises none m (j, x, within, e, (f, p)) d hk = elim (cases_lt j k) [
  | inl l ↦ absurd (none j m l (subst P (sym (at m)) p))
  | inr g ↦ elim (cases_eq k j) [
    | inl s ↦ omega (arith, at d, f, ap (λ i. get_or xs i d) s)
    | inr o ↦ omega (arith, at d, f, rises k j d (omega arith) within)
  ]
]
  where
    at : (c : ℕ) → get_or xs j c ≡ x
    at c = get_or_default xs j c x within ∙ e
