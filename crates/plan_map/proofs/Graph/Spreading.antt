-- When all neighbours of the region at the head are visited, the search goes on.
use Rattle.std.proofs.Common.{◌≡◌, ◌≢◌, ℕ, suc, ◌+◌, ◌<◌, replicate, List, [], ◌∷◌, ◌++◌, length, get_or, set, Option, Some, None, All, refl, sym, ap, ◌∙◌, subst, arith, get_or-set_other, get_or-set_same, Contains}
use Rattle.std.proofs.lemmas.List.{get_or_append_left, length_push, get_or_default}
use Rattle.std.proofs.lemmas.List.Elements.{All-head, All-tail, All-nil, All-cons, All-contains, Contains-get_or}
use Rattle.plan_map.specs.Distances.{IsWithin}
use Rattle.plan_map.specs.Search.{State, state, at, nth, visit, visits, IsSearch, IsRow}
use Rattle.plan_map.proofs.Graph.Distances.{same_some}
use Rattle.plan_map.proofs.Graph.Steps.{visited, known, advanced, bounded, begun}

pub visits_append : (ms ns : List ℕ) (steps : ℕ) (s : State) → visits (ms ++ ns) steps s ≡ visits ns steps (visits ms steps s)
visits_append [] ns steps s = refl
visits_append (m ∷ ms) ns steps s = visits_append ms ns steps (visit m steps s)

module _ (next : ℕ → ℕ → Type 0) (count goal head r d : ℕ) where
  -- the search at the region r with d steps
  record IsAt (s : State) : Type 0 where
    search : IsSearch next count goal s.seen head s.dist
    here : head < length s.seen
    region : nth s.seen head ≡ r
    steps : at s.dist r ≡ Some d

  -- what is measured in s stays so in t
  abbrev Keeps : State → State → Type 0
  Keeps s t = (n e : ℕ) → IsWithin (at s.dist) n e → IsWithin (at t.dist) n e

  record Visited (ns : List ℕ) (s t : State) : Type 0 where
    is_at : IsAt t
    keeps : Keeps s t
    within : All (λ n. IsWithin (at t.dist) n (suc d)) ns

  one_more : (n : ℕ) (s : State) → IsAt s → n < count → next n r → IsAt (visit n (suc d) s) × Keeps s (visit n (suc d) s) × IsWithin (at (visit n (suc d) s).dist) n (suc d)
  one_more n s a hn step = go (at s.dist n) refl
    where
      from : at s.dist (nth s.seen head) ≡ Some d
      from = ap (at s.dist) a.region ∙ a.steps

      differs : (m k : ℕ) → at s.dist n ≡ None → at s.dist m ≡ Some k → m ≢ n
      differs m k e f same = let g : at s.dist m ≡ at s.dist n = ap (at s.dist) same in cc

      go : (o : Option ℕ) → at s.dist n ≡ o
          → let t : State = elim o [ None ↦ state (s.seen ++ n ∷ []) (set s.dist n (Some (suc d))) | Some e ↦ s ] in
          IsAt t × Keeps s t × IsWithin (at t.dist) n (suc d)
      go (Some k) e = (a, λ m e w. w, known a.search a.here n d k from e)
      go None e = (
        record {
          search = visited a.search a.here n d hn e (subst (next n) (sym a.region) step) from;
          here = omega (arith, length_push s.seen n, a.here);
          region = get_or_append_left s.seen (n ∷ []) 0 head a.here ∙ a.region;
          steps = get_or-set_other s.dist n r (Some (suc d)) None (differs r d e a.steps) ∙ a.steps;
        },
        λ m k w. record { distance = w.distance; is_some = get_or-set_other s.dist n m (Some (suc d)) None (differs m w.distance e w.is_some) ∙ w.is_some; at_most = w.at_most },
        record { distance = suc d; is_some = get_or-set_same s.dist n (Some (suc d)) None (omega (arith, a.search.size)); at_most = omega arith },
      )

  spreads : (ns : List ℕ) (s : State) → IsAt s → All (λ n. n < count) ns → All (λ n. next n r) ns → Visited ns s (visits ns (suc d) s)
  spreads [] s a below near = record { is_at = a; keeps = λ n e w. w; within = All-nil (λ n. IsWithin (at s.dist) n (suc d)) }
  spreads (n ∷ ns) s a below near =
      let (here, keeps, within) = one_more n s a (All-head (λ n. n < count) n ns below) (All-head (λ n. next n r) n ns near) in
      let t = spreads ns (visit n (suc d) s) here (All-tail (λ n. n < count) n ns below) (All-tail (λ n. next n r) n ns near) in
      record {
        is_at = t.is_at;
        keeps = λ m e w. t.keeps m e (keeps m e w);
        within = All-cons (λ m. IsWithin (at (visits ns (suc d) (visit n (suc d) s)).dist) m (suc d)) n ns (t.keeps n (suc d) within) t.within;
      }

  spread_on : (ns : List ℕ) (s : State) → IsAt s → All (λ n. n < count) ns → All (λ n. next n r) ns → ((n : ℕ) → next n r → Contains ns n) → IsSearch next count goal (visits ns (suc d) s).seen (suc head) (visits ns (suc d) s).dist
  spread_on ns s a below near all =
      let t = spreads ns s a below near in
      let u = visits ns (suc d) s in
      advanced t.is_at.search t.is_at.here (λ n e go f.
      let same : d ≡ e = same_some d e (sym t.is_at.steps ∙ ap (at u.dist) (sym t.is_at.region) ∙ f) in
      let w = All-contains (λ n. IsWithin (at u.dist) n (suc d)) ns n t.within (all n (subst (next n) t.is_at.region go)) in
      record { distance = w.distance; is_some = w.is_some; at_most = omega (arith, w.at_most, same) })

-- ---- in the words of a loop, which reads r at the head and o at r
module _ {next : ℕ → ℕ → Type 0} {count goal head r : ℕ} {seen : List ℕ} {dist : List (Option ℕ)} {o : Option ℕ} (s : IsSearch next count goal seen head dist) (here : head < length seen) (er : r ≡ get_or seen head r) (eo : o ≡ get_or dist r o) where
  region : nth seen head ≡ r
  region = get_or_default seen head 0 r here ∙ sym er

  steps : at dist r ≡ o
  steps = get_or_default dist r None o (omega (arith, s.below head here, s.size, region)) ∙ sym eo

  pub region_below : r < count
  region_below = omega (arith, s.below head here, region)

  pub steps_below : (d : ℕ) → o ≡ Some d → d < count
  steps_below d e = omega (arith, s.behind head d here (ap (at dist) region ∙ steps ∙ e), bounded s)

  -- what is at the head is measured
  pub is_measured : o ≢ None
  is_measured e =
      let m = s.measured head here in
      let l : Some m.distance ≡ None = sym m.is_some ∙ ap (at dist) region ∙ steps ∙ e in
      cc

pub goes_on : {next : ℕ → ℕ → Type 0} {count goal head r : ℕ} {seen seen' row : List ℕ} {dist dist' : List (Option ℕ)} {o : Option ℕ} → IsSearch next count goal seen head dist → head < length seen → r ≡ get_or seen head r → o ≡ get_or dist r o
    → (d : ℕ) → o ≡ Some d → IsRow next r row → ((n : ℕ) → next n r → n < count) → state seen' dist' ≡ visits row (d + 1) (state seen dist) → IsSearch next count goal seen' (head + 1) dist'
goes_on {next} {count} {goal} {head} {r} {seen} {seen'} {row} {dist} {dist'} s here er eo d e is within became =
    let near : All (λ n. next n r) row = λ k c less. (is.exact (get_or row k c)).0 (Contains-get_or row k c less) in
    let t = spread_on next count goal head r d row (state seen dist) (record { search = s; here = here; region = region s here er eo; steps = steps s here er eo ∙ e }) (λ k c less. within (get_or row k c) (near k c less)) near (λ n h. (is.exact n).1 h) in
    let step : d + 1 ≡ suc d = omega arith in
    let after : state seen' dist' ≡ visits row (suc d) (state seen dist) = became ∙ ap (λ k. visits row k (state seen dist)) step in
    let one : head + 1 ≡ suc head = omega arith in
    subst (λ k. IsSearch next count goal seen' k dist') (sym one) (subst (λ st. IsSearch next count goal st.seen (suc head) st.dist) (sym after) t)

pub starts : {next : ℕ → ℕ → Type 0} {count goal : ℕ} {seen : List ℕ} {dist : List (Option ℕ)} → seen ≡ goal ∷ [] → dist ≡ replicate count None → goal < count → IsSearch next count goal seen 0 (set dist goal (Some 0))
starts {next} {count} {goal} {seen} {dist} e f h = subst (λ s. IsSearch next count goal s 0 (set dist goal (Some 0))) (sym e) (subst (λ d. IsSearch next count goal (goal ∷ []) 0 (set d goal (Some 0))) (sym f) (begun next count goal h))
