-- Walks may be turned and made longer, as neighbours are so both ways; what has a distance is what a walk joins to the goal.
use Rattle.std.proofs.Common.{◌≡◌, inl, inr, ℕ, ◌+◌, ◌<◌, List, [], ◌∷◌, ◌++◌, length, get_or, Option, Some, None, Contains, refl, sym, ap, ◌∙◌, subst, arith}
use Rattle.std.proofs.lemmas.Bool.{cases_lt}
use Rattle.std.proofs.lemmas.List.{get_or_past}
use Rattle.std.proofs.lemmas.List.Elements.{Contains-push, Contains-push_cases, Contains-append_left, Contains-get_or}
use Rattle.std.proofs.lemmas.List.Quantifiers.{all_pairs_push}
use Rattle.plan_spec.specs.Walks.{Leads, AreJoined, IsComponent}
use Rattle.plan_map.specs.Distances.{AreDistances}
use Rattle.plan_map.specs.Search.{at, Measured, AreMeasured}
use Rattle.plan_map.proofs.Graph.Distances.{no_shorter, walk_of}

-- ---- walks turned
longer : (next : ℕ → ℕ → Type 0) (n c r : ℕ) (ns : List ℕ) → Leads next n r ns → next n c → Leads next c r (ns ++ c ∷ [])
longer next n c r [] e step = (subst (λ n. next n c) (sym e) step, refl)
longer next n c r (m ∷ ms) (go, rest) step = (go, longer next n c m ms rest step)

turned : (next : ℕ → ℕ → Type 0) → ((m n : ℕ) → next m n → next n m) → (n r : ℕ) (ns : List ℕ) → Leads next n r ns → (ms : List ℕ) × Leads next r n ms
turned next both_ways n r [] e = ([], sym e)
turned next both_ways n r (m ∷ ns) (step, rest) =
    let (ms, back) = turned next both_ways n m ns rest in
    (ms ++ r ∷ [], longer next m r n ms back (both_ways r m step))

pub leads_of : (next : ℕ → ℕ → Type 0) (m n : ℕ) → AreJoined next m n → (ns : List ℕ) × Leads next n m ns
leads_of next m n ([], w) = absurd w
leads_of next m n (k ∷ ks, (e, leads)) = (ks, subst (λ k. Leads next n k ks) e leads)

-- a walk may go on to a neighbour
pub one_step_on : (next : ℕ → ℕ → Type 0) (m n k : ℕ) → AreJoined next m n → next n k → AreJoined next m k
one_step_on next m n k j step = let (ns, leads) = leads_of next m n j in (m ∷ (ns ++ k ∷ []), (refl, longer next n k m ns leads step))

-- and along another walk
leads_on : (next : ℕ → ℕ → Type 0) (m n k : ℕ) (xs ys : List ℕ) → Leads next n m xs → Leads next k n ys → Leads next k m (xs ++ ys)
leads_on next m n k [] ys e rest = subst (λ n. Leads next k n ys) (sym e) rest
leads_on next m n k (x ∷ xs) ys (step, more) rest = (step, leads_on next x n k xs ys more rest)

pub joined_on : (next : ℕ → ℕ → Type 0) (m n k : ℕ) → AreJoined next m n → AreJoined next n k → AreJoined next m k
joined_on next m n k i j =
    let (xs, leads) = leads_of next m n i in
    let (ys, rest) = leads_of next n k j in
    (m ∷ (xs ++ ys), (refl, leads_on next m n k xs ys leads rest))

-- ---- distances tell whether a walk leads to the goal
pub not_joined : {next : ℕ → ℕ → Type 0} {goal : ℕ} {dist : ℕ → Option ℕ} → AreDistances next goal dist → (r : ℕ) → dist r ≡ None → ¬ (AreJoined next r goal)
not_joined {next} {goal} {dist} are r none joined =
    let (ns, leads) = leads_of next r goal joined in
    let w = no_shorter next goal dist are r ns leads in
    let e : None ≡ Some w.distance = sym none ∙ w.is_some in
    cc

module _ {next : ℕ → ℕ → Type 0} {goal : ℕ} (dist : List (Option ℕ)) (are : AreDistances next goal (at dist)) where
  pub component_of : ((m n : ℕ) → next m n → next n m) → (ns : List ℕ) → AreMeasured dist (length dist) ns → IsComponent next goal ns
  component_of both_ways ns measured = record { rising = measured.rising; members = λ n. (to n, from n) }
    where
      to : (n : ℕ) → Contains ns n → AreJoined next goal n
      to n h =
          let (less, m) = (measured.exact n).0 h in
          let w = walk_of next goal (at dist) are m.distance n m.is_some in
          let (ms, back) = turned next both_ways goal n w.steps w.leads in
          (goal ∷ ms, (refl, back))

      within : (n d : ℕ) → at dist n ≡ Some d → n < length dist
      within n d e = elim (cases_lt n (length dist)) [
        | inl less ↦ less
        | inr past ↦ let f : None ≡ Some d = sym (get_or_past dist n None past) ∙ e in absurd (cc)
      ]

      from : (n : ℕ) → AreJoined next goal n → Contains ns n
      from n joined =
          let (ks, leads) = leads_of next goal n joined in
          let (ms, back) = turned next both_ways n goal ks leads in
          let w = no_shorter next goal (at dist) are n ms back in
          (measured.exact n).1 (within n w.distance w.is_some, record { distance = w.distance; is_some = w.is_some })

-- ---- the numbers that have a distance, one after another
pub one_measured : {dist : List (Option ℕ)} {i : ℕ} {ns : List ℕ} → AreMeasured dist i ns → Measured dist i → AreMeasured dist (i + 1) (ns ++ i ∷ [])
one_measured {dist} {i} {ns} are m = record {
  exact = λ n. (to n, from n);
  rising = all_pairs_push (λ m n. m < n) ns i are.rising (λ k d within. ((are.exact (get_or ns k d)).0 (Contains-get_or ns k d within)).0);
}
  where
    to : (n : ℕ) → Contains (ns ++ i ∷ []) n → (n < i + 1) × Measured dist n
    to n h = elim (Contains-push_cases ns i n h) [
      | inl c ↦ let (less, m) = (are.exact n).0 c in (omega arith, m)
      | inr e ↦ (omega (arith, e), subst (Measured dist) e m)
    ]

    from : (n : ℕ) → (n < i + 1) × Measured dist n → Contains (ns ++ i ∷ []) n
    from n (less, m) = elim (cases_lt n i) [
      | inl l ↦ Contains-append_left ns (i ∷ []) n ((are.exact n).1 (l, m))
      | inr g ↦ let e : i ≡ n = omega arith in subst (Contains (ns ++ i ∷ [])) e (Contains-push ns i)
    ]

pub one_unmeasured : {dist : List (Option ℕ)} {i : ℕ} {ns : List ℕ} → AreMeasured dist i ns → at dist i ≡ None → AreMeasured dist (i + 1) ns
one_unmeasured {dist} {i} {ns} are none = record { exact = λ n. (to n, from n); rising = are.rising }
  where
    to : (n : ℕ) → Contains ns n → (n < i + 1) × Measured dist n
    to n h = let (less, m) = (are.exact n).0 h in (omega arith, m)

    from : (n : ℕ) → (n < i + 1) × Measured dist n → Contains ns n
    from n (less, m) = elim (cases_lt n i) [
      | inl l ↦ (are.exact n).1 (l, m)
      | inr g ↦ let e : n ≡ i = omega arith in let f : None ≡ Some m.distance = sym none ∙ ap (at dist) (sym e) ∙ m.is_some in absurd (cc)
    ]
