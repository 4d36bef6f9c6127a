-- Watchers are told one pair after another: what one call leaves, what calls leave together, and those of edits that have ended.
use Rattle.std.proofs.Common.{◌≡◌, inl, inr, ℕ, suc, ◌+◌, ◌-◌, ◌*◌, ◌<◌, ◌≤◌, Bool, true, false, cond, List, [], ◌∷◌, ◌++◌, length, map, filter, drop, get_or, All, Result, Ok, refl, sym, ap, subst, ◌∙◌, append_assoc, append-nil, length-drop, arith}
use Rattle.std.specs.List.{AllZip}
use Rattle.std.proofs.lemmas.List.{drop_more, drop_all, length-map, get_or-map}
use Rattle.std.proofs.lemmas.List.Elements.{All-head, All-tail, All-cons, All-nil, All-filter, All-weaker}
use Rattle.plan_scene.specs.declared.edit.Edit.{Edit}
use Rattle.plan_top.specs.Telling.{CanEnd, CanAllEnd, count_after, count_ended, count_told, pair_ended, pairs_told}
use Rattle.plan_top.specs.Watching.{Pair, Watched, AreLeft, AreTold}

-- ---- what is left of a list
pub drop_at : {X : Type 0} (xs : List X) (i : ℕ) (x : X) → i < length xs → x ≡ get_or xs i x → drop i xs ≡ x ∷ drop (i + 1) xs
drop_at xs i x lt is = drop_more xs i x lt ∙ ap (λ y. y ∷ drop (i + 1) xs) (sym is)

pub drop_seen : {X Y : Type 0} (f : X → Y) (xs : List X) (i : ℕ) (d : X) → i < length xs → drop i (map f xs) ≡ f (get_or xs i d) ∷ drop (i + 1) (map f xs)
drop_seen f xs i d lt = drop_more (map f xs) i (f d) (omega (arith, lt, length-map xs f)) ∙ ap (λ y. y ∷ drop (i + 1) (map f xs)) (get_or-map f xs i d (f d) lt)

-- ---- calls together
left_both : (p q : List Pair) (a b c : List Watched) → AreLeft p a b → AreLeft q b c → AreLeft (p ++ q) a c
left_both p q [] [] [] h k = tt
left_both p q [] [] (u ∷ c) h k = absurd k
left_both p q [] (v ∷ b) c h k = absurd h
left_both p q (w ∷ a) [] [] h k = (h.0, left_both p q a [] [] h.1 k)
left_both p q (w ∷ a) [] (u ∷ c) h k = absurd k
left_both p q (w ∷ a) (v ∷ b) [] (inl h) k = (λ s. k.0 (h.1 s), left_both p q a b [] h.2 k.1)
left_both p q (w ∷ a) (v ∷ b) [] (inr h) k = (h.0, left_both p q a (v ∷ b) [] h.1 k)
left_both p q (w ∷ a) (v ∷ b) (u ∷ c) (inl h) (inl k) = inl (k.0 ∙ (ap (λ l. l ++ q) h.0 ∙ append_assoc w.0 p q), λ s. k.1 (h.1 s), left_both p q a b c h.2 k.2)
left_both p q (w ∷ a) (v ∷ b) (u ∷ c) (inl h) (inr k) = inr (λ s. k.0 (h.1 s), left_both p q a b (u ∷ c) h.2 k.1)
left_both p q (w ∷ a) (v ∷ b) (u ∷ c) (inr h) k = inr (h.0, left_both p q a (v ∷ b) (u ∷ c) h.1 k)

pub told_both : (a b c : List Watched) (p q : List Pair) → AreTold a b p → AreTold b c q → AreTold a c (p ++ q)
told_both a b c [] q h k = subst (λ (l : List Watched). AreTold l c q) h k
told_both a b c (x ∷ p) [] h k = subst (λ l. AreLeft l a c) (sym (append-nil (x ∷ p))) (subst (λ (l : List Watched). AreLeft (x ∷ p) a l) (sym k) h)
told_both a b c (x ∷ p) (y ∷ q) h k = left_both (x ∷ p) (y ∷ q) a b c h k

module _ {W : Type 0} (heard : W → List Pair) (room : W → ℕ) (steady : W → Bool) where
  -- ---- one call
  abbrev Grows : Pair → W → W → Type 0
  Grows pair w v = (heard v ≡ heard w ++ pair ∷ []) × (room v ≡ room w - 1) × (steady w ≡ true → steady v ≡ true)

  abbrev watched : List W → List Watched
  watched ws = map (λ w. (heard w, steady w)) ws

  pub one_told : (stays : W → Bool) (pair : Pair) (before after : List W) → AllZip (Grows pair) (filter stays before) after → All (λ w. steady w ≡ true → stays w ≡ true) before → AreLeft (pair ∷ []) (watched before) (watched after)
  one_told stays pair [] [] z h = tt
  one_told stays pair [] (v ∷ after) z h = absurd z
  one_told stays pair (w ∷ before) after z h =
      by (stays w) after (All-head (λ w. steady w ≡ true → stays w ≡ true) w before h) (λ later y. one_told stays pair before later y (All-tail (λ w. steady w ≡ true → stays w ≡ true) w before h)) z
    where
      by : (b : Bool) (later : List W) → (steady w ≡ true → b ≡ true) → ((l : List W) → AllZip (Grows pair) (filter stays before) l → AreLeft (pair ∷ []) (watched before) (watched l)) → AllZip (Grows pair) (cond b (w ∷ filter stays before) (filter stays before)) later
          → AreLeft (pair ∷ []) (watched (w ∷ before)) (watched later)
      by true [] s rest y = absurd y
      by true (v ∷ later) s rest y = inl (y.0.0, y.0.2, rest later y.1)
      by false [] s rest y = (λ e. absurd (cc (s e)), rest [] y)
      by false (v ∷ later) s rest y = inr (λ e. absurd (cc (s e)), rest (v ∷ later) y)

  -- an accepted edit is told
  pub accepted_told : {F : Type 0} (stays : W → Bool) (version count obstacles : ℕ) (e : Edit) (r : Result ℕ F) (before after : List W) → r ≡ Ok version → count ≡ count_after obstacles e → AllZip (Grows (version, count)) (filter stays before) after
      → All (λ w. steady w ≡ true → stays w ≡ true) before → AreTold (watched before) (watched after) (pair_ended obstacles e r)
  accepted_told {F = F} stays version count obstacles e r before after is count_is z h =
      subst (λ (r : Result ℕ F). AreTold (watched before) (watched after) (pair_ended obstacles e r)) (sym is)
      (subst (λ n. AreTold (watched before) (watched after) ((version, n) ∷ [])) count_is (one_told stays (version, count) before after z h))

  room_each : (pair : Pair) (k : ℕ) (before after : List W) → AllZip (Grows pair) before after → All (λ w. suc k ≤ room w) before → All (λ w. k ≤ room w) after
  room_each pair k [] [] z h = All-nil (λ w. k ≤ room w)
  room_each pair k [] (v ∷ after) z h = absurd z
  room_each pair k (w ∷ before) [] z h = absurd z
  room_each pair k (w ∷ before) (v ∷ after) z h =
      All-cons (λ w. k ≤ room w) v after (omega (arith, z.0.1, All-head (λ w. suc k ≤ room w) w before h)) (room_each pair k before after z.1 (All-tail (λ w. suc k ≤ room w) w before h))

  pub room_left : (stays : W → Bool) (pair : Pair) (k : ℕ) (before after : List W) → AllZip (Grows pair) (filter stays before) after → All (λ w. suc k ≤ room w) before → All (λ w. k ≤ room w) after
  room_left stays pair k before after z h = room_each pair k (filter stays before) after z (All-filter stays (λ w. suc k ≤ room w) before h)

  -- ---- edits that have ended, one after another
  module _ {F : Type 0} (edits : List Edit) (ends : List (Result ℕ F)) (obstacles : ℕ) (old : List W) where
    -- those before the place are told
    pub record Told (at count : ℕ) (now : List W) : Type 0 where
      pub pairs : List Pair
      pub told : AreTold (watched old) (watched now) pairs
      pub all : pairs ++ pairs_told count (drop at edits) (drop at ends) ≡ pairs_told obstacles edits ends
      pub can : CanAllEnd count (drop at edits) (drop at ends)
      pub count_is : count_told count (drop at edits) (drop at ends) ≡ count_told obstacles edits ends
      pub left : (k : ℕ) → All (λ w. k + at ≤ room w) old → All (λ w. k ≤ room w) now

    pub none_told : CanAllEnd obstacles edits ends → Told 0 obstacles old
    none_told can = record {
      pairs = [];
      told = refl;
      all = refl;
      can = can;
      count_is = refl;
      left = λ k h. All-weaker (λ w. k + 0 ≤ room w) (λ w. k ≤ room w) (λ w le. omega (arith, le)) old h;
    }

    can_long : (n : ℕ) (es : List Edit) (rs : List (Result ℕ F)) → CanAllEnd n es rs → length rs ≡ length es
    can_long n [] [] h = refl
    can_long n [] (r ∷ rs) h = absurd h
    can_long n (e ∷ es) [] h = absurd h
    can_long n (e ∷ es) (r ∷ rs) h = let rest = can_long (count_ended n e r) es rs h.1 in omega (arith, rest)

    -- as many ends as edits
    pub long : (at count : ℕ) (now : List W) → Told at count now → length ends - at ≡ length edits - at
    long at count now t = omega (arith, can_long count (drop at edits) (drop at ends) t.can, length-drop at edits, length-drop at ends)

    -- the next one can end so, and each watcher has room
    pub next_can : (at count : ℕ) (now : List W) (e : Edit) (r : Result ℕ F) → at < length edits → Told at count now → drop at edits ≡ e ∷ drop (at + 1) edits → drop at ends ≡ r ∷ drop (at + 1) ends → CanEnd count e r
    next_can at count now e r lt t first end = (subst (CanAllEnd count (e ∷ drop (at + 1) edits)) end (subst (λ (l : List Edit). CanAllEnd count l (drop at ends)) first t.can)).0

    pub next_room : (at count : ℕ) (now : List W) → at < length edits → Told at count now → All (λ w. length edits ≤ room w) old → All (λ w. 0 < room w) now
    next_room at count now lt t h = t.left 1 (All-weaker (λ w. length edits ≤ room w) (λ w. 1 + at ≤ room w) (λ w le. omega (arith, le, lt)) old h)

    pub one_more : (at count after : ℕ) (now later : List W) (e : Edit) (r : Result ℕ F) → Told at count now → drop at edits ≡ e ∷ drop (at + 1) edits → drop at ends ≡ r ∷ drop (at + 1) ends
        → AreTold (watched now) (watched later) (pair_ended count e r) → ((k : ℕ) → All (λ w. suc k ≤ room w) now → All (λ w. k ≤ room w) later) → after ≡ count_ended count e r → Told (at + 1) after later
    one_more at count after now later e r t first end told left is =
        let can : CanAllEnd count (e ∷ drop (at + 1) edits) (r ∷ drop (at + 1) ends) = subst (CanAllEnd count (e ∷ drop (at + 1) edits)) end (subst (λ (l : List Edit). CanAllEnd count l (drop at ends)) first t.can) in
        let all : t.pairs ++ pairs_told count (e ∷ drop (at + 1) edits) (r ∷ drop (at + 1) ends) ≡ pairs_told obstacles edits ends
        = subst (λ (l : List (Result ℕ F)). t.pairs ++ pairs_told count (e ∷ drop (at + 1) edits) l ≡ pairs_told obstacles edits ends) end (subst (λ (l : List Edit). t.pairs ++ pairs_told count l (drop at ends) ≡ pairs_told obstacles edits ends) first t.all) in
        subst (λ n. Told (at + 1) n later) (sym is) (record {
          pairs = t.pairs ++ pair_ended count e r;
          told = told_both (watched old) (watched now) (watched later) t.pairs (pair_ended count e r) t.told told;
          all = append_assoc t.pairs (pair_ended count e r) (pairs_told (count_ended count e r) (drop (at + 1) edits) (drop (at + 1) ends)) ∙ all;
          can = can.1;
          count_is = subst (λ (l : List (Result ℕ F)). count_told count (e ∷ drop (at + 1) edits) l ≡ count_told obstacles edits ends) end (subst (λ (l : List Edit). count_told count l (drop at ends) ≡ count_told obstacles edits ends) first t.count_is);
          left = λ k h. left k (t.left (suc k) (All-weaker (λ w. k + (at + 1) ≤ room w) (λ w. suc k + at ≤ room w) (λ w le. omega (arith, le)) old h));
        })

    -- all are told
    pub record AllTold (count : ℕ) (now : List W) : Type 0 where
      pub told : AreTold (watched old) (watched now) (pairs_told obstacles edits ends)
      pub left : (k : ℕ) → All (λ w. k + length edits ≤ room w) old → All (λ w. k ≤ room w) now
      pub count_is : count ≡ count_told obstacles edits ends

    pub all_told : (count : ℕ) (now : List W) → Told (length edits) count now → AllTold count now
    all_told count now t =
        let none : drop (length edits) edits ≡ [] = drop_all (length edits) edits (omega arith) in
        let all : t.pairs ++ [] ≡ pairs_told obstacles edits ends = subst (λ (l : List Edit). t.pairs ++ pairs_told count l (drop (length edits) ends) ≡ pairs_told obstacles edits ends) none t.all in
        record {
          told = subst (AreTold (watched old) (watched now)) (sym (append-nil t.pairs) ∙ all) t.told;
          left = t.left;
          count_is = subst (λ (l : List Edit). count_told count l (drop (length edits) ends) ≡ count_told obstacles edits ends) none t.count_is;
        }

-- ---- rounds of at most 32 edits
pub room_next : {W : Type 0} (room : W → ℕ) (at n : ℕ) (ws later : List W) → at < 64 → n ≤ 32 → ((k : ℕ) → All (λ w. k + n ≤ room w) ws → All (λ w. k ≤ room w) later) → All (λ w. 2048 ≤ room w + 32 * at) ws → All (λ w. 2048 ≤ room w + 32 * (at + 1)) later
room_next room at n ws later lt few left h =
    let k = 2048 - 32 * (at + 1) in
    All-weaker (λ w. k ≤ room w) (λ w. 2048 ≤ room w + 32 * (at + 1)) (λ w le. omega (arith, le)) later
    (left k (All-weaker (λ w. 2048 ≤ room w + 32 * at) (λ w. k + n ≤ room w) (λ w le. omega (arith, le, lt, few)) ws h))
