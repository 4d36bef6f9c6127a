-- Floods from one number after another: at a number that has no label yet, on to the next that is seen, and at the end of all.
use Rattle.std.proofs.Common.{◌≡◌, ℕ, suc, ◌+◌, ◌≤◌, ◌<◌, inl, inr, List, [], ◌∷◌, ◌++◌, length, get_or, set, Option, Some, None, All, refl, sym, ap, ◌∙◌, subst, arith, get_or-set_same, get_or-set_other}
use Rattle.std.proofs.lemmas.Bool.{cases_eq, cases_lt}
use Rattle.std.proofs.lemmas.List.{get_or_append_left, get_or_push, length_push, length-set, get_or_default}
use Rattle.std.proofs.lemmas.List.Elements.{All-head, All-tail, All-nil, All-cons, All-contains, Contains-get_or}
use Rattle.plan_spec.specs.Walks.{Leads, AreJoined}
use Rattle.plan_map.specs.Labels.{AreLabels, IsFlood, HasLabels}
use Rattle.plan_map.specs.Search.{State, state, at, nth, visit, visits, Measured, IsRow}
use Rattle.plan_map.proofs.Graph.Distances.{same_some}
use Rattle.plan_map.proofs.Graph.Joined.{leads_of, one_step_on}
use Rattle.plan_map.proofs.Graph.Steps.{few_distinct}

-- ---- a number that has no label yet
pub labelled : {next : ℕ → ℕ → Type 0} {count label : ℕ} {seen : List ℕ} {head : ℕ} {labels : List (Option ℕ)} → IsFlood next count label seen head labels → head ≤ length seen
    → (m : ℕ) → m < count → at labels m ≡ None → AreJoined next label m → IsFlood next count label (seen ++ m ∷ []) head (set labels m (Some label))
labelled {next} {count} {label} {seen} {head} {labels} s hh m hm fresh joined = record {
  size = length-set labels m (Some label) ∙ s.size;
  below = λ k hk. elim (cases_lt k (length seen)) [
    | inl l ↦ subst (λ x. x < count) (sym (old k l)) (s.below k l)
    | inr g ↦ subst (λ x. x < count) (sym (new k g hk)) hm
  ];
  once = λ i j hij hj e. elim (cases_lt j (length seen)) [
    | inl l ↦ s.once i j hij l (sym (old i (omega arith)) ∙ e ∙ old j l)
    | inr g ↦
        let hi : i < length seen = omega (arith, length_push seen m) in
        let v = s.labelled i hi in
        none v.distance (ap (at labels) (sym (sym (old i hi) ∙ e ∙ new j g hj)) ∙ v.is_some)
  ];
  listed = λ n e he. elim (cases_eq n m) [
    | inl same ↦ record { place = length seen; within = omega (arith, length_push seen m); is = get_or_push seen m 0 (length seen) refl ∙ sym same }
    | inr other ↦
        let l = s.listed n e (sym (kept_other n other) ∙ he) in
        record { place = l.place; within = omega (arith, length_push seen m, l.within); is = old l.place l.within ∙ l.is }
  ];
  labelled = λ k hk. elim (cases_lt k (length seen)) [
    | inl l ↦ let v = s.labelled k l in record { distance = v.distance; is_some = ap labels' (old k l) ∙ kept (nth seen k) v.distance v.is_some }
    | inr g ↦ record { distance = label; is_some = ap labels' (new k g hk) ∙ here }
  ];
  joined = λ n l e. elim (cases_eq n m) [
    | inl same ↦
        let f : Some label ≡ Some l = sym here ∙ ap labels' (sym same) ∙ e in
        subst (λ n. AreJoined next l n) (sym same) (subst (λ l. AreJoined next l m) (same_some label l f) joined)
    | inr other ↦ s.joined n l (sym (kept_other n other) ∙ e)
  ];
  low = λ n l e. elim (cases_eq n m) [
    | inl same ↦
        let f : Some label ≡ Some l = sym here ∙ ap labels' (sym same) ∙ e in
        omega (arith, same_some label l f, same, not_lesser)
    | inr other ↦ s.low n l (sym (kept_other n other) ∙ e)
  ];
  around = λ i n hi hs step.
      let h : i < length seen = omega arith in
      let v = s.labelled i h in
      let e = s.around i n hi h (subst (next n) (old i h) step) in
      kept n v.distance (e ∙ v.is_some) ∙ sym (ap labels' (old i h) ∙ kept (nth seen i) v.distance v.is_some);
  ahead = λ i hi hs. elim (cases_lt i (length seen)) [
    | inl l ↦ ap labels' (old i l) ∙ kept (nth seen i) label (s.ahead i hi l)
    | inr g ↦ ap labels' (new i g hs) ∙ here
  ];
  lesser = λ n h. let v = s.lesser n h in record { distance = v.distance; is_some = kept n v.distance v.is_some };
}
  where
    labels' : ℕ → Option ℕ
    labels' = at (set labels m (Some label))

    none : (e : ℕ) → at labels m ≡ Some e → ⊥
    none e f = cc

    not_lesser : label ≤ m
    not_lesser = elim (cases_lt m label) [
      | inl less ↦ let v = s.lesser m less in absurd (none v.distance v.is_some)
      | inr h ↦ h
    ]

    here : labels' m ≡ Some label
    here = get_or-set_same labels m (Some label) None (omega (arith, s.size))

    kept_other : (n : ℕ) → (n ≡ m → ⊥) → labels' n ≡ at labels n
    kept_other n other = get_or-set_other labels m n (Some label) None other

    kept : (n e : ℕ) → at labels n ≡ Some e → labels' n ≡ Some e
    kept n e f = kept_other n (λ same. none e (ap (at labels) (sym same) ∙ f)) ∙ f

    old : (k : ℕ) → k < length seen → nth (seen ++ m ∷ []) k ≡ nth seen k
    old k l = get_or_append_left seen (m ∷ []) 0 k l

    new : (k : ℕ) → length seen ≤ k → k < length (seen ++ m ∷ []) → nth (seen ++ m ∷ []) k ≡ m
    new k g l = let e : length seen ≡ k = omega (arith, length_push seen m) in get_or_push seen m 0 k e

-- ---- the neighbours of the region r at the head
module _ (next : ℕ → ℕ → Type 0) (both_ways : (m n : ℕ) → next m n → next n m) (count head r label : ℕ) where
  record IsAt (s : State) : Type 0 where
    flood : IsFlood next count label s.seen head s.dist
    here : head < length s.seen
    region : nth s.seen head ≡ r

  abbrev Keeps : State → State → Type 0
  Keeps s t = (n l : ℕ) → at s.dist n ≡ Some l → at t.dist n ≡ Some l

  record Visited (ns : List ℕ) (s t : State) : Type 0 where
    is_at : IsAt t
    keeps : Keeps s t
    each : All (λ n. at t.dist n ≡ Some label) ns

  one_more : (n : ℕ) (s : State) → IsAt s → n < count → next n r → IsAt (visit n label s) × Keeps s (visit n label s) × (at (visit n label s).dist n ≡ Some label)
  one_more n s a hn step = go (at s.dist n) refl
    where
      own : at s.dist r ≡ Some label
      own = ap (at s.dist) (sym a.region) ∙ a.flood.ahead head (omega arith) a.here

      -- one that has a label has this one
      known : (k : ℕ) → at s.dist n ≡ Some k → at s.dist n ≡ Some label
      known k e =
          let l = a.flood.listed n k e in
          elim (cases_lt l.place head) [
            | inl less ↦ ap (at s.dist) (sym l.is) ∙ sym (a.flood.around l.place r less l.within (subst (next r) (sym l.is) (both_ways n r step))) ∙ own
            | inr g ↦ ap (at s.dist) (sym l.is) ∙ a.flood.ahead l.place g l.within
          ]

      go : (o : Option ℕ) → at s.dist n ≡ o
          → let t : State = elim o [ None ↦ state (s.seen ++ n ∷ []) (set s.dist n (Some label)) | Some e ↦ s ] in
          IsAt t × Keeps s t × (at t.dist n ≡ Some label)
      go (Some k) e = (a, (λ m l f. f), known k e)
      go None e = (
        record {
          flood = labelled a.flood (omega (arith, a.here)) n hn e (one_step_on next label r n (a.flood.joined r label own) (both_ways n r step));
          here = omega (arith, length_push s.seen n, a.here);
          region = get_or_append_left s.seen (n ∷ []) 0 head a.here ∙ a.region;
        },
        (λ m l f. get_or-set_other s.dist n m (Some label) None (λ same. let g : at s.dist m ≡ at s.dist n = ap (at s.dist) same in cc) ∙ f),
        get_or-set_same s.dist n (Some label) None (omega (arith, a.flood.size)),
      )

  spreads : (ns : List ℕ) (s : State) → IsAt s → All (λ n. n < count) ns → All (λ n. next n r) ns → Visited ns s (visits ns label s)
  spreads [] s a below near = record { is_at = a; keeps = λ n l f. f; each = All-nil (λ n. at s.dist n ≡ Some label) }
  spreads (n ∷ ns) s a below near =
      let (here, keeps, is) = one_more n s a (All-head (λ n. n < count) n ns below) (All-head (λ n. next n r) n ns near) in
      let t = spreads ns (visit n label s) here (All-tail (λ n. n < count) n ns below) (All-tail (λ n. next n r) n ns near) in
      record {
        is_at = t.is_at;
        keeps = λ m l f. t.keeps m l (keeps m l f);
        each = All-cons (λ m. at (visits ns label (visit n label s)).dist m ≡ Some label) n ns (t.keeps n label is) t.each;
      }

-- on to the next, when all neighbours of this one have its label
advanced : {next : ℕ → ℕ → Type 0} {count label : ℕ} {seen : List ℕ} {head : ℕ} {labels : List (Option ℕ)} → IsFlood next count label seen head labels → head < length seen
    → ((n : ℕ) → next n (nth seen head) → at labels n ≡ Some label) → IsFlood next count label seen (suc head) labels
advanced {next} {seen = seen} {head} {labels} s h all = record {
  size = s.size;
  below = s.below;
  once = s.once;
  listed = s.listed;
  labelled = s.labelled;
  joined = s.joined;
  low = s.low;
  around = λ i n hi hs step. elim (cases_eq i head) [
    | inl same ↦ all n (subst (λ i. next n (nth seen i)) same step) ∙ sym (s.ahead i (omega arith) hs)
    | inr other ↦ s.around i n (omega arith) hs step
  ];
  ahead = λ i hi hs. s.ahead i (omega arith) hs;
  lesser = s.lesser;
}

-- the number of the flood has its label, its own or a lesser one
pub record IsPoured (next : ℕ → ℕ → Type 0) (count label : ℕ) (seen : List ℕ) (head : ℕ) (labels : List (Option ℕ)) : Type 0 where
  pub flood : IsFlood next count label seen head labels
  pub own : Measured labels label

-- ---- in the words of a loop, which reads r at the head
pub region_seen : {next : ℕ → ℕ → Type 0} {count label head r : ℕ} {seen : List ℕ} {labels : List (Option ℕ)} → IsFlood next count label seen head labels → head < length seen → r ≡ get_or seen head r → r < count
region_seen {head = head} {r} {seen} s here er = omega (arith, s.below head here, get_or_default seen head 0 r here, er)

pub flows_on : {next : ℕ → ℕ → Type 0} {count label head r : ℕ} {seen seen' row : List ℕ} {labels labels' : List (Option ℕ)} → IsPoured next count label seen head labels → head < length seen → r ≡ get_or seen head r
    → IsRow next r row → ((m n : ℕ) → next m n → next n m) → ((n : ℕ) → next n r → n < count) → state seen' labels' ≡ visits row label (state seen labels) → IsPoured next count label seen' (head + 1) labels'
flows_on {next} {count} {label} {head} {r} {seen} {seen'} {row} {labels} {labels'} p here er is both_ways within became =
    let near : All (λ n. next n r) row = λ k c less. (is.exact (get_or row k c)).0 (Contains-get_or row k c less) in
    let v = spreads next both_ways count head r label row (state seen labels) (record { flood = p.flood; here = here; region = get_or_default seen head 0 r here ∙ sym er }) (λ k c less. within (get_or row k c) (near k c less)) near in
    let u = visits row label (state seen labels) in
    let t : IsPoured next count label u.seen (suc head) u.dist = record {
      flood = advanced v.is_at.flood v.is_at.here (λ n step. All-contains (λ n. at u.dist n ≡ Some label) row n v.each ((is.exact n).1 (subst (next n) v.is_at.region step)));
      own = record { distance = p.own.distance; is_some = v.keeps label p.own.distance p.own.is_some };
    } in
    let one : head + 1 ≡ suc head = omega arith in
    subst (λ k. IsPoured next count label seen' k labels') (sym one) (subst (λ st. IsPoured next count label st.seen (suc head) st.dist) (sym became) t)

pub never_more : {next : ℕ → ℕ → Type 0} {count label : ℕ} {seen : List ℕ} {head : ℕ} {labels : List (Option ℕ)} → IsFlood next count label seen head labels → length seen ≤ count
never_more {count = count} {seen = seen} s = few_distinct seen count s.once s.below

-- ---- from one flood to the next
pub poured : {next : ℕ → ℕ → Type 0} {count label : ℕ} {seen seen' : List ℕ} {labels labels' : List (Option ℕ)} → IsFlood next count label seen (length seen) labels → label < count → state seen' labels' ≡ visit label label (state seen labels)
    → IsPoured next count label seen' (length seen) labels'
poured {next} {count} {label} {seen} {seen'} {labels} {labels'} s h became = subst (λ st. IsPoured next count label st.seen (length seen) st.dist) (sym became) (go (at labels label) refl)
  where
    go : (o : Option ℕ) → at labels label ≡ o
        → let t : State = elim o [ None ↦ state (seen ++ label ∷ []) (set labels label (Some label)) | Some e ↦ state seen labels ] in
        IsPoured next count label t.seen (length seen) t.dist
    go (Some k) e = record { flood = s; own = record { distance = k; is_some = e } }
    go None e = record {
      flood = labelled s (omega arith) label h e (label ∷ [], (refl, refl));
      own = record { distance = label; is_some = get_or-set_same labels label (Some label) None (omega (arith, s.size)) };
    }

-- ---- all floods together
module _ {next : ℕ → ℕ → Type 0} {count : ℕ} {seen : List ℕ} {labels : List (Option ℕ)} (s : IsFlood next count count seen (length seen) labels) (both_ways : (m n : ℕ) → next m n → next n m) (within : (m n : ℕ) → next m n → m < count) where
  same_beside : (m n : ℕ) → next m n → at labels m ≡ at labels n
  same_beside m n step =
      let v = s.lesser n (within n m (both_ways m n step)) in
      let l = s.listed n v.distance v.is_some in
      s.around l.place m l.within l.within (subst (next m) (sym l.is) step) ∙ ap (at labels) l.is

  same_along : (n m : ℕ) (ks : List ℕ) → Leads next n m ks → at labels m ≡ at labels n
  same_along n m [] e = ap (at labels) e
  same_along n m (k ∷ ks) (step, rest) = same_beside m k step ∙ same_along n k ks rest

  pub labels_found : (found : List ℕ) → HasLabels labels found → AreLabels next count found
  labels_found found has = record {
    size = has.size ∙ s.size;
    below = λ n h. let v = s.lesser n h in omega (arith, has.each n v.distance v.is_some, s.low n v.distance v.is_some);
    joined = λ n h. let v = s.lesser n h in subst (λ l. AreJoined next l n) (sym (has.each n v.distance v.is_some)) (s.joined n v.distance v.is_some);
    same = same;
    least = λ m n hm hn j. let v = s.lesser m hm in omega (arith, same m n hm hn j, has.each m v.distance v.is_some, s.low m v.distance v.is_some);
  }
    where
      same : (m n : ℕ) → m < count → n < count → AreJoined next m n → get_or found m 0 ≡ get_or found n 0
      same m n hm hn j =
          let (ks, leads) = leads_of next m n j in
          let v = s.lesser n hn in
          has.each m v.distance (same_along n m ks leads ∙ v.is_some) ∙ sym (has.each n v.distance v.is_some)
