-- A search from the goal that takes what it has seen in order meets the local conditions of distances: begun, at a neighbour that is new, at the end of a region's neighbours, and at the end.
use Rattle.std.proofs.Common.{◌≡◌, ◌≢◌, ℕ, suc, ◌≤◌, ◌<◌, ◌⊎◌, inl, inr, List, [], ◌∷◌, ◌++◌, length, set, replicate, Option, Some, None, refl, sym, ap, ◌∙◌, subst, arith, get_or-set_same, get_or-set_other, AllPairs, true, eqb}
use Rattle.std.proofs.lemmas.Bool.{cases_eq, cases_lt, eqb-true}
use Rattle.std.proofs.lemmas.Bool.Decides.{Decides-eqb}
use Rattle.std.proofs.lemmas.Map.Steps.{length-le_from_distinct_below}
use Rattle.std.proofs.lemmas.Map.Made.{IsDistinct-from_AllPairs}
use Rattle.std.proofs.lemmas.List.Folds.{Any-from_list_any}
use Rattle.std.specs.List.{list_any}
use Rattle.std.proofs.lemmas.List.{get_or_append_left, get_or_push, length_push, length-set, length-replicate, get_or-replicate, get_or_past, get_or_default}
use Rattle.plan_map.specs.Distances.{IsWithin, AreDistancesUntil, IsReached}
use Rattle.plan_map.specs.Search.{at, nth, IsSearch}
use Rattle.plan_map.proofs.Graph.Distances.{same_some}

-- ---- the end
-- all is before the head, or what is sought is seen
pub finished : {next : ℕ → ℕ → Type 0} {count goal : ℕ} {seen : List ℕ} {head : ℕ} {dist : List (Option ℕ)} (until : Option ℕ) → IsSearch next count goal seen head dist → (length seen ≤ head) ⊎ IsReached until (at dist) → AreDistancesUntil next goal until (at dist)
finished {next} {seen = seen} {head} {dist} until s ends = record { at_goal = s.at_goal; only_goal = s.only_goal; down = s.down; around = around }
  where
    around : (n m d : ℕ) → next n m → at dist m ≡ Some d → ((r e : ℕ) → until ≡ Some r → at dist r ≡ Some e → suc d < e) → IsWithin (at dist) n (suc d)
    around n m d step e far =
        let l = s.listed m d e in
        s.around l.place n d (behind_head ends (cases_lt l.place head)) l.within (subst (next n) (sym l.is) step) (ap (at dist) l.is ∙ e)
      where
        behind_head : (length seen ≤ head) ⊎ IsReached until (at dist) → (s.listed m d e).place < head ⊎ head ≤ (s.listed m d e).place → (s.listed m d e).place < head
        behind_head ends (inl less) = less
        behind_head (inl all) (inr g) = let l = s.listed m d e in omega (arith, all, l.within)
        behind_head (inr r) (inr g) =
            let l = s.listed m d e in
            let here : head < length seen = omega (arith, g, l.within) in
            let h = s.measured head here in
            let q = s.listed r.region r.distance r.is_some in
            let near = s.near q.place h.distance r.distance here q.within h.is_some (ap (at dist) q.is ∙ r.is_some) in
            let up = s.rises head l.place h.distance d g l.within h.is_some (ap (at dist) l.is ∙ e) in
            absurd (omega (arith, near, up, far r.region r.distance r.until_is r.is_some))

-- ---- on to the next region, when all neighbours of this one are measured
pub advanced : {next : ℕ → ℕ → Type 0} {count goal : ℕ} {seen : List ℕ} {head : ℕ} {dist : List (Option ℕ)} → IsSearch next count goal seen head dist → head < length seen
    → ((n d : ℕ) → next n (nth seen head) → at dist (nth seen head) ≡ Some d → IsWithin (at dist) n (suc d)) → IsSearch next count goal seen (suc head) dist
advanced {next} {seen = seen} {head} {dist} s h all = record {
  size = s.size;
  below = s.below;
  once = s.once;
  listed = s.listed;
  measured = s.measured;
  at_goal = s.at_goal;
  only_goal = s.only_goal;
  down = s.down;
  rises = s.rises;
  behind = s.behind;
  near = λ j d e hn hj hd he.
      let m = s.measured head h in
      let up = s.rises head (suc head) m.distance d (omega arith) hn m.is_some hd in
      let by = s.near j m.distance e h hj m.is_some he in
      omega arith;
  around = λ i n d hi hs step e. elim (cases_eq i head) [
    | inl same ↦ all n d (subst (λ i. next n (nth seen i)) same step) (ap (λ i. at dist (nth seen i)) (sym same) ∙ e)
    | inr other ↦ s.around i n d (omega arith) hs step e
  ];
}

-- ---- a neighbour that is measured already
pub known : {next : ℕ → ℕ → Type 0} {count goal : ℕ} {seen : List ℕ} {head : ℕ} {dist : List (Option ℕ)} → IsSearch next count goal seen head dist → head < length seen
    → (n d e : ℕ) → at dist (nth seen head) ≡ Some d → at dist n ≡ Some e → IsWithin (at dist) n (suc d)
known {dist = dist} s h n d e hd he =
    let l = s.listed n e he in
    record { distance = e; is_some = he; at_most = s.near l.place d e h l.within hd (ap (at dist) l.is ∙ he) }

-- ---- a neighbour that is new
pub visited : {next : ℕ → ℕ → Type 0} {count goal : ℕ} {seen : List ℕ} {head : ℕ} {dist : List (Option ℕ)} → IsSearch next count goal seen head dist → head < length seen
    → (m d : ℕ) → m < count → at dist m ≡ None → next m (nth seen head) → at dist (nth seen head) ≡ Some d → IsSearch next count goal (seen ++ m ∷ []) head (set dist m (Some (suc d)))
visited {next} {count} {goal} {seen} {head} {dist} s h m d hm fresh step hd = record {
  size = length-set dist m (Some (suc d)) ∙ s.size;
  below = λ k hk. elim (cases_lt k (length seen)) [
    | inl l ↦ subst (λ x. x < count) (sym (old k l)) (s.below k l)
    | inr g ↦ subst (λ x. x < count) (sym (new k g hk)) hm
  ];
  once = λ i j hij hj e. elim (cases_lt j (length seen)) [
    | inl l ↦ s.once i j hij l (sym (old i (omega arith)) ∙ e ∙ old j l)
    | inr g ↦
        let hi : i < length seen = omega (arith, length_push seen m) in
        let v = s.measured i hi in
        none v.distance (ap (at dist) (sym (sym (old i hi) ∙ e ∙ new j g hj)) ∙ v.is_some)
  ];
  listed = λ n e he. elim (cases_eq n m) [
    | inl same ↦ record { place = length seen; within = omega (arith, length_push seen m); is = get_or_push seen m 0 (length seen) refl ∙ sym same }
    | inr other ↦
        let l = s.listed n e (sym (kept_other n other) ∙ he) in
        record { place = l.place; within = omega (arith, length_push seen m, l.within); is = old l.place l.within ∙ l.is }
  ];
  measured = λ k hk. elim (cases_lt k (length seen)) [
    | inl l ↦ let v = s.measured k l in record { distance = v.distance; is_some = ap dist' (old k l) ∙ kept (nth seen k) v.distance v.is_some }
    | inr g ↦ record { distance = suc d; is_some = ap dist' (new k g hk) ∙ here }
  ];
  at_goal = kept goal 0 s.at_goal;
  only_goal = λ n e. elim (cases_eq n m) [
    | inl same ↦ absurd (let f : Some (suc d) ≡ Some 0 = sym here ∙ ap dist' (sym same) ∙ e in omega (arith, same_some (suc d) 0 f))
    | inr other ↦ s.only_goal n (sym (kept_other n other) ∙ e)
  ];
  down = λ n e he. elim (cases_eq n m) [
    | inl same ↦
        let f : Some (suc d) ≡ Some (suc e) = sym here ∙ ap dist' (sym same) ∙ he in
        let g : d ≡ e = omega (arith, same_some (suc d) (suc e) f) in
        record { at = nth seen head; neighbour = subst (λ n. next n (nth seen head)) (sym same) step; nearer = kept (nth seen head) d hd ∙ ap Some g }
    | inr other ↦
        let l = s.down n e (sym (kept_other n other) ∙ he) in
        record { at = l.at; neighbour = l.neighbour; nearer = kept l.at e l.nearer }
  ];
  rises = λ i j p q hij hj hp hq. elim (cases_lt j (length seen)) [
    | inl l ↦ s.rises i j p q hij l (back i p (omega arith) hp) (back j q l hq)
    | inr g ↦ elim (cases_lt i (length seen)) [
      | inl l ↦ omega (arith, s.near i d p h l hd (back i p l hp), last j q g hj hq)
      | inr k ↦ omega (arith, last j q g hj hq, last i p k (omega arith) hp)
    ]
  ];
  behind = λ k p hk hp. elim (cases_lt k (length seen)) [
    | inl l ↦ s.behind k p l (back k p l hp)
    | inr g ↦ omega (arith, last k p g hk hp, s.behind head d h hd)
  ];
  near = λ j p q hn hj hp hq.
      let e = same_some d p (sym hd ∙ back head p h hp) in
      elim (cases_lt j (length seen)) [
        | inl l ↦ omega (arith, s.near j d q h l hd (back j q l hq))
        | inr g ↦ omega (arith, last j q g hj hq)
      ];
  around = λ i n p hi hs go hp.
      let l : i < length seen = omega arith in
      let w = s.around i n p hi l (subst (next n) (old i l) go) (back i p l hp) in
      record { distance = w.distance; is_some = kept n w.distance w.is_some; at_most = w.at_most };
}
  where
    dist' : ℕ → Option ℕ
    dist' = at (set dist m (Some (suc d)))

    none : (e : ℕ) → at dist m ≡ Some e → ⊥
    none e f = cc

    here : dist' m ≡ Some (suc d)
    here = get_or-set_same dist m (Some (suc d)) None (omega (arith, s.size))

    kept_other : (n : ℕ) → (n ≡ m → ⊥) → dist' n ≡ at dist n
    kept_other n other = get_or-set_other dist m n (Some (suc d)) None other

    kept : (n e : ℕ) → at dist n ≡ Some e → dist' n ≡ Some e
    kept n e f = kept_other n (λ same. none e (ap (at dist) (sym same) ∙ f)) ∙ f

    old : (k : ℕ) → k < length seen → nth (seen ++ m ∷ []) k ≡ nth seen k
    old k l = get_or_append_left seen (m ∷ []) 0 k l

    new : (k : ℕ) → length seen ≤ k → k < length (seen ++ m ∷ []) → nth (seen ++ m ∷ []) k ≡ m
    new k g l = let e : length seen ≡ k = omega (arith, length_push seen m) in get_or_push seen m 0 k e

    back : (k e : ℕ) → k < length seen → dist' (nth (seen ++ m ∷ []) k) ≡ Some e → at dist (nth seen k) ≡ Some e
    back k e l f =
        let v = s.measured k l in
        let g : Some v.distance ≡ Some e = sym (kept (nth seen k) v.distance v.is_some) ∙ ap dist' (sym (old k l)) ∙ f in
        v.is_some ∙ g

    last : (k e : ℕ) → length seen ≤ k → k < length (seen ++ m ∷ []) → dist' (nth (seen ++ m ∷ []) k) ≡ Some e → e ≡ suc d
    last k e g l f = same_some e (suc d) (sym f ∙ ap dist' (new k g l) ∙ here)

-- ---- the beginning
pub begun : (next : ℕ → ℕ → Type 0) (count goal : ℕ) → goal < count → IsSearch next count goal (goal ∷ []) 0 (set (replicate count None) goal (Some 0))
begun next count goal h = record {
  size = length-set (replicate count None) goal (Some 0) ∙ length-replicate count None;
  below = λ k hk. subst (λ x. x < count) (sym (one k hk)) h;
  once = λ i j hij hj e. absurd (omega arith);
  listed = λ n d e. elim (cases_eq n goal) [
    | inl same ↦ record { place = 0; within = omega arith; is = sym same }
    | inr other ↦ absurd (unseen n d other e)
  ];
  measured = λ k hk. record { distance = 0; is_some = ap dist (one k hk) ∙ here };
  at_goal = here;
  only_goal = λ n e. elim (cases_eq n goal) [
    | inl same ↦ same
    | inr other ↦ absurd (unseen n 0 other e)
  ];
  down = λ n d e. elim (cases_eq n goal) [
    | inl same ↦ absurd (let f : Some 0 ≡ Some (suc d) = sym here ∙ ap dist (sym same) ∙ e in omega (arith, same_some 0 (suc d) f))
    | inr other ↦ absurd (unseen n (suc d) other e)
  ];
  rises = λ i j d e hij hj hd he. omega (arith, zero_at i d (omega arith) hd);
  behind = λ k d hk hd. omega (arith, zero_at k d hk hd);
  near = λ j d e hn hj hd he. omega (arith, zero_at j e hj he);
  around = λ i n d hi hs step e. absurd (omega arith);
}
  where
    dist : ℕ → Option ℕ
    dist = at (set (replicate count None) goal (Some 0))

    here : dist goal ≡ Some 0
    here = get_or-set_same (replicate count None) goal (Some 0) None (omega (arith, length-replicate {A = Option ℕ} count None))

    unseen : (n d : ℕ) → (n ≡ goal → ⊥) → dist n ≡ Some d → ⊥
    unseen n d other e =
        let f : at (replicate count None) n ≡ Some d = sym (get_or-set_other (replicate count None) goal n (Some 0) None other) ∙ e in
        by (cases_lt n count) f
      where
        by : (n < count) ⊎ (count ≤ n) → at (replicate count None) n ≡ Some d → ⊥
        by (inl l) f = let g = get_or-replicate {A = Option ℕ} count n None None l in cc
        by (inr l) f = let g = get_or_past (replicate {A = Option ℕ} count None) n None (omega (arith, length-replicate {A = Option ℕ} count None)) in cc

    one : (k : ℕ) → k < length (goal ∷ []) → nth (goal ∷ []) k ≡ goal
    one k hk = let e : k ≡ 0 = omega arith in ap (nth (goal ∷ [])) e

    zero_at : (k d : ℕ) → k < length (goal ∷ []) → dist (nth (goal ∷ []) k) ≡ Some d → d ≡ 0
    zero_at k d hk e = same_some d 0 (sym e ∙ ap dist (one k hk) ∙ here)

-- ---- never more than there is
pub few_distinct : (seen : List ℕ) (count : ℕ) → ((i j : ℕ) → i < j → j < length seen → ¬ (nth seen i ≡ nth seen j)) → ((k : ℕ) → k < length seen → nth seen k < count) → length seen ≤ count
few_distinct seen count once each = length-le_from_distinct_below seen count (IsDistinct-from_AllPairs Decides-eqb seen apart) below
  where
    apart : AllPairs (λ x y. x ≢ y) seen
    apart i j d h l e = once i j h l (get_or_default seen i 0 d (omega arith) ∙ e ∙ get_or_default seen j d 0 l)

    below : (q : ℕ) → list_any (eqb q) seen ≡ true → q < count
    below q e =
        let a = Any-from_list_any (eqb q) seen e in
        let same : q ≡ a.1 = eqb-true q a.1 a.4 in
        omega (arith, each a.0 a.2, get_or_default seen a.0 0 a.1 a.2 ∙ a.3, same)

pub bounded : {next : ℕ → ℕ → Type 0} {count goal : ℕ} {seen : List ℕ} {head : ℕ} {dist : List (Option ℕ)} → IsSearch next count goal seen head dist → length seen ≤ count
bounded {count = count} {seen = seen} s = few_distinct seen count s.once s.below
