-- Whether a walk joins two numbers is decided by a table: walks are put together at one number after another. So each number has its component.
use Rattle.std.proofs.Common.{◌≡◌, ◌⊎◌, inl, inr, ⊎_elim, ℕ, zero, suc, ◌+◌, ◌<◌, Bool, true, false, ◌&&◌, ◌||◌, List, [], ◌∷◌, AllPairs, Contains, get_or, eqb, refl, ◌∙◌, subst, arith}
use Rattle.std.proofs.lemmas.Bool.{and_parts, and_from, or_left, or_right, or_cases, eqb-true, eq-eqb, cases_eq, cases_Bool}
use Rattle.std.proofs.lemmas.List.FromFn.{length-range_with_len, get_or-range_with_len}
use Rattle.std.proofs.lemmas.List.Kept.{AllPairs-filter}
use Rattle.std.specs.List.{filter, range_with_len}
use Rattle.plan_plane.proofs.Lists.{any_filter, any_unfilter}
use Rattle.plan_spec.specs.Walks.{Leads, AreJoined, IsComponent}
use Rattle.plan_map.proofs.Graph.Joined.{leads_of, joined_on}

-- a walk leads from m to n whose numbers between the two are below k
abbrev reach : (ℕ → ℕ → Bool) → ℕ → ℕ → ℕ → Bool
reach near zero m n = eqb m n || near m n
reach near (suc k) m n = reach near k m n || (reach near k m k && reach near k k n)

module _ (near : ℕ → ℕ → Bool) where
  abbrev Next : ℕ → ℕ → Type 0
  Next m n = near m n ≡ true

  joined_from : (m n : ℕ) (xs : List ℕ) → Leads Next n m xs → AreJoined Next m n
  joined_from m n xs leads = (m ∷ xs, (refl, leads))

  -- ---- what the table says is so
  reached : (k m n : ℕ) → reach near k m n ≡ true → AreJoined Next m n
  reached zero m n h = ⊎_elim (λ e. joined_from m n [] (eqb-true m n e)) (λ step. joined_from m n (n ∷ []) (step, refl)) (or_cases (eqb m n) (near m n) h)
  reached (suc k) m n h = ⊎_elim (reached k m n) (λ b. let p = and_parts _ _ b in joined_on Next m k n (reached k m k p.0) (reached k k n p.1)) (or_cases (reach near k m n) (reach near k m k && reach near k k n) h)

  -- ---- and all that is so it says
  by_way : (k m n : ℕ) → reach near k m k ≡ true → reach near k k n ≡ true → reach near (suc k) m n ≡ true
  by_way k m n h l = or_right (reach near k m n) (reach near k m k && reach near k k n) (and_from _ _ h l)

  -- to k itself no way by k is needed
  to_own : (k m : ℕ) → reach near (suc k) m k ≡ true → reach near k m k ≡ true
  to_own k m h = ⊎_elim (λ a. a) (λ b. (and_parts _ _ b).0) (or_cases (reach near k m k) (reach near k m k && reach near k k k) h)

  from_own : (k n : ℕ) → reach near (suc k) k n ≡ true → reach near k k n ≡ true
  from_own k n h = ⊎_elim (λ a. a) (λ b. (and_parts _ _ b).1) (or_cases (reach near k k n) (reach near k k k && reach near k k n) h)

  together : (k m n p : ℕ) → n < k → reach near k m n ≡ true → reach near k n p ≡ true → reach near k m p ≡ true
  together zero m n p less h l = absurd (omega arith)
  together (suc k) m n p less h l = elim (cases_eq n k) [
    | inl e ↦ by_way k m p (to_own k m (subst (λ n. reach near (suc k) m n ≡ true) e h)) (from_own k p (subst (λ n. reach near (suc k) n p ≡ true) e l))
    | inr other ↦ by (λ m n p less h l. together k m n p less h l) (omega arith) (or_cases (reach near k m n) (reach near k m k && reach near k k n) h) (or_cases (reach near k n p) (reach near k n k && reach near k k p) l)
  ]
    where
      by : ((m n p : ℕ) → n < k → reach near k m n ≡ true → reach near k n p ≡ true → reach near k m p ≡ true) → n < k → (reach near k m n ≡ true) ⊎ (reach near k m k && reach near k k n ≡ true) → (reach near k n p ≡ true) ⊎ (reach near k n k && reach near k k p ≡ true) → reach near (suc k) m p ≡ true
      by go below (inl a) (inl c) = or_left (reach near k m p) _ (go m n p below a c)
      by go below (inl a) (inr c) = let q = and_parts _ _ c in by_way k m p (go m n k below a q.0) q.1
      by go below (inr a) (inl c) = let q = and_parts _ _ a in by_way k m p q.0 (go k n p below q.1 c)
      by go below (inr a) (inr c) = by_way k m p (and_parts _ _ a).0 (and_parts _ _ c).1

  at_once : (k m n : ℕ) → reach near 0 m n ≡ true → reach near k m n ≡ true
  at_once zero m n h = h
  at_once (suc k) m n h = or_left (reach near k m n) _ (at_once k m n h)

  -- count bounds the numbers that have neighbours
  module _ (count : ℕ) (bounded : (m n : ℕ) → near m n ≡ true → (m < count) × (n < count)) where
    reach_all : (m n : ℕ) (xs : List ℕ) → Leads Next n m xs → reach near count m n ≡ true
    reach_all m n [] e = at_once count m n (or_left (eqb m n) (near m n) (eq-eqb m n e))
    reach_all m n (x ∷ xs) (step, rest) = together count m x n (bounded m x step).1 (at_once count m x (or_right (eqb m x) (near m x) step)) (reach_all x n xs rest)

    joined_true : (m n : ℕ) → AreJoined Next m n → reach near count m n ≡ true
    joined_true m n j = let (xs, leads) = leads_of Next m n j in reach_all m n xs leads

    pub joined_or_not : (m n : ℕ) → AreJoined Next m n ⊎ (¬ (AreJoined Next m n))
    joined_or_not m n = by (cases_Bool (reach near count m n))
      where
        by : (reach near count m n ≡ true) ⊎ (reach near count m n ≡ false) → AreJoined Next m n ⊎ (¬ (AreJoined Next m n))
        by (inl t) = inl (reached count m n t)
        by (inr f) = inr (λ j. let t = joined_true m n j in absurd (cc))

    -- the component of m
    pub component : (m : ℕ) → ((n : ℕ) → AreJoined Next m n → n < count) → (ns : List ℕ) × IsComponent Next m ns
    component m within = (filter (reach near count m) (range_with_len 0 count), record { rising = AllPairs-filter (λ i j. i < j) (reach near count m) (range_with_len 0 count) rising; members = λ n. (into n, out n) })
      where
        at : (i d : ℕ) → i < count → get_or (range_with_len 0 count) i d ≡ i
        at i d less = get_or-range_with_len 0 count i d less ∙ first i
          where
            first : (i : ℕ) → 0 + i ≡ i
            first i = omega arith

        rising : AllPairs (λ i j. i < j) (range_with_len 0 count)
        rising i j d less below =
            let hj : j < count = omega (arith, below, length-range_with_len 0 count) in
            omega (arith, at i d (omega (arith, hj)), at j d hj)

        into : (n : ℕ) → Contains (filter (reach near count m) (range_with_len 0 count)) n → AreJoined Next m n
        into n (k, below, is) = let (i, x, less, e, (t, same)) = any_unfilter (λ x. x ≡ n) (reach near count m) (range_with_len 0 count) (k, n, below, is, refl) in reached count m n (subst (λ n. reach near count m n ≡ true) same t)

        out : (n : ℕ) → AreJoined Next m n → Contains (filter (reach near count m) (range_with_len 0 count)) n
        out n j =
            let hn = within n j in
            let (i, x, less, e, same) = any_filter (λ x. x ≡ n) (reach near count m) (range_with_len 0 count) (n, n, omega (arith, hn, length-range_with_len 0 count), at n n hn, (joined_true m n j, refl)) in
            (i, less, subst (λ x. get_or (filter (reach near count m) (range_with_len 0 count)) i x ≡ x) same e)
