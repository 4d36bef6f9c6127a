-- One turn of the loop: the first of what is left is told and kept, or goes. So what is left in the end is, place by place, what stays.
use Rattle.std.proofs.Common.{◌≡◌, ℕ, zero, suc, ◌+◌, ◌<◌, ◌≤◌, Bool, true, false, List, [], ◌∷◌, ◌++◌, filter, drop, length, set, remove, get_or, refl, sym, subst, ap, ◌∙◌, arith, All, add-one, length-set, append_assoc}
use Rattle.std.specs.List.{AllZip}
use Rattle.std.proofs.lemmas.List.{append-nil, drop-set-lt, drop_all}
use Rattle.std.proofs.lemmas.List.Elements.{All-push, All-nil}

module _ {A : Type 0} (R : A → A → Type 0) (stays : A → Bool) where
  -- those before the place were told and kept, and those from there on are as they were: all that stay are so accounted for
  abbrev pub Told : ℕ → List A → List A → Type 0
  Told zero now all = all ≡ filter stays now
  Told (suc at) [] all = ⊥
  Told (suc at) (x ∷ now) [] = ⊥
  Told (suc at) (x ∷ now) (y ∷ all) = R y x × Told at now all

  keep_first : (x w : A) (xs all : List A) → R x w → all ≡ x ∷ filter stays xs → Told 1 (w ∷ xs) all
  keep_first x w xs [] grown is = absurd cc
  keep_first x w xs (y ∷ all) grown is = (subst (λ z. R z w) (cc is) grown, cc is)

  keeps : (xs all : List A) (at : ℕ) (d w : A) → at < length xs → stays (get_or xs at d) ≡ true → R (get_or xs at d) w → Told at xs all → Told (suc at) (set xs at w) all
  keeps [] all at d w lt stay grown told = absurd (omega arith)
  keeps (x ∷ xs) all zero d w lt stay grown told = keep_first x w xs all grown (told ∙ rw stay refl)
  keeps (x ∷ xs) [] (suc at) d w lt stay grown told = told
  keeps (x ∷ xs) (y ∷ all) (suc at) d w lt stay grown told = (told.0, keeps xs all at d w (omega arith) stay grown told.1)

  goes : (xs all : List A) (at : ℕ) (d : A) → at < length xs → stays (get_or xs at d) ≡ false → Told at xs all → Told at (remove xs at) all
  goes [] all at d lt done told = absurd (omega arith)
  goes (x ∷ xs) all zero d lt done told = told ∙ rw done refl
  goes (x ∷ xs) [] (suc at) d lt done told = told
  goes (x ∷ xs) (y ∷ all) (suc at) d lt done told = (told.0, goes xs all at d (omega arith) done told.1)

  -- at the end all that stay are there, each told
  all_told : (xs all : List A) (at : ℕ) → at ≡ length xs → Told at xs all → AllZip R all xs
  all_told [] all zero end told = subst (λ l. AllZip R l []) (sym told) tt
  all_told [] all (suc at) end told = absurd (omega arith)
  all_told (x ∷ xs) all zero end told = absurd (omega arith)
  all_told (x ∷ xs) [] (suc at) end told = absurd told
  all_told (x ∷ xs) (y ∷ all) (suc at) end told = (told.0, all_told xs all at (omega arith) told.1)

  drop_first : (xs : List A) (at : ℕ) (d : A) → at < length xs → drop at xs ≡ get_or xs at d ∷ drop (suc at) xs
  drop_first [] at d lt = absurd (omega arith)
  drop_first (x ∷ xs) zero d lt = refl
  drop_first (x ∷ xs) (suc at) d lt = drop_first xs at d (omega arith)

  drop_remove : (xs : List A) (at : ℕ) → at < length xs → drop at (remove xs at) ≡ drop (suc at) xs
  drop_remove [] at lt = absurd (omega arith)
  drop_remove (x ∷ xs) zero lt = refl
  drop_remove (x ∷ xs) (suc at) lt = drop_remove xs at (omega arith)

  remove_set : (xs : List A) (at : ℕ) (w : A) → at < length xs → remove (set xs at w) at ≡ remove xs at
  remove_set [] at w lt = absurd (omega arith)
  remove_set (x ∷ xs) zero w lt = refl
  remove_set (x ∷ xs) (suc at) w lt = ap (λ l. x ∷ l) (remove_set xs at w (omega arith))

  remove_fits : (xs : List A) (at : ℕ) → at < length xs → at ≤ length (remove xs at)
  remove_fits [] at lt = absurd (omega arith)
  remove_fits (x ∷ xs) zero lt = omega arith
  remove_fits (x ∷ xs) (suc at) lt = let rest = remove_fits xs at (omega arith) in omega arith

  -- P holds of each that is still to be told, and Q of each that was, whether it stays or not
  module _ (P Q : A → Type 0) where
    all_tail : (x : A) (xs : List A) → All P (x ∷ xs) → All P xs
    all_tail x xs h k d lt = h (suc k) d (omega arith)

    abbrev pub Passed : List A → List A → Type 0
    Passed old rest = (front : List A) × (front ++ rest ≡ old) × All Q front × All P rest

    passes : (old xs : List A) (at : ℕ) (d : A) → at < length xs → Q (get_or xs at d) → Passed old (drop at xs) → Passed old (drop (suc at) xs)
    passes old xs at d lt q h =
        let first = drop_first xs at d lt in (
          h.0 ++ get_or xs at d ∷ [],
          append_assoc h.0 (get_or xs at d ∷ []) (drop (suc at) xs) ∙ (ap (λ l. h.0 ++ l) (sym first) ∙ h.1),
          All-push Q h.0 (get_or xs at d) h.2 q,
          all_tail (get_or xs at d) (drop (suc at) xs) (subst (All P) first h.3),
        )

    -- all were told
    all_passed : (old xs : List A) (at : ℕ) → at ≡ length xs → Passed old (drop at xs) → All Q old
    all_passed old xs at end h =
        let none : drop at xs ≡ [] = drop_all at xs (omega (arith, end)) in
        subst (All Q) (sym (append-nil h.0) ∙ (ap (λ l. h.0 ++ l) (sym none) ∙ h.1)) h.2

    -- what the loop keeps: those before the place were told and kept, all others are as they were or are gone
    pub record Turned (old all : List A) (at : ℕ) (xs : List A) : Type 0 where
      pub within : at ≤ length xs
      pub passed : Passed old (drop at xs)
      pub told : Told at xs all

    pub none_told : (old all : List A) → All P old → all ≡ filter stays old → Turned old all 0 old
    none_told old all h is = record { within = omega arith; passed = ([], refl, All-nil Q, h); told = is }

    -- the next one may be told
    pub next : (old all xs : List A) (at : ℕ) (x : A) → at < length xs → Turned old all at xs → x ≡ get_or xs at x → P x
    next old all xs at x lt h there = subst P (sym there) (subst (All P) (drop_first xs at x lt) h.passed.3 0 x (omega arith))

    pub keep_turn : (old all xs : List A) (at : ℕ) (x w : A) → at < length xs → Turned old all at xs → x ≡ get_or xs at x → Q x → stays x ≡ true → R x w → Turned old all (at + 1) (set xs at w)
    keep_turn old all xs at x w lt h there q stay grown = rw add-one (record {
      within = omega (arith, length-set xs at w);
      passed = subst (Passed old) (sym (drop-set-lt (suc at) xs at w (omega arith))) (passes old xs at x lt (subst Q there q) h.passed);
      told = keeps xs all at x w lt (subst (λ y. stays y ≡ true) there stay) (subst (λ y. R y w) there grown) h.told;
    })

    pub drop_turn : (old all xs ys : List A) (at : ℕ) (x w : A) → at < length xs → Turned old all at xs → x ≡ get_or xs at x → Q x → stays x ≡ false → ys ≡ remove (set xs at w) at → Turned old all at ys
    drop_turn old all xs ys at x w lt h there q done is =
        let gone : ys ≡ remove xs at = is ∙ remove_set xs at w lt in
        rw gone (record {
          within = remove_fits xs at lt;
          passed = subst (Passed old) (sym (drop_remove xs at lt)) (passes old xs at x lt (subst Q there q) h.passed);
          told = goes xs all at x lt (subst (λ y. stays y ≡ false) there done) h.told;
        })

    -- at the end exactly those that stay are left
    pub left : (old all xs : List A) (at : ℕ) → length xs ≤ at → Turned old all at xs → AllZip R all xs × All Q old
    left old all xs at end h = let there : at ≡ length xs = omega (arith, h.within) in (all_told xs all at there h.told, all_passed old xs at there h.passed)
