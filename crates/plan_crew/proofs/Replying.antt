-- What a lane says of the editor's last list lies between the versions at the start and at the end.
use Rattle.std.proofs.Common.{◌≡◌, ℕ, zero, suc, ◌+◌, ◌-◌, ◌<◌, ◌≤◌, List, [], ◌∷◌, ◌++◌, Result, Vec, Some, length, map, slice_get, refl, sym, ◌∙◌, subst, arith}
use Rattle.std.specs.List.{AllZip}
use Rattle.plan_crew.specs.declared.job.Outcome.{Outcome}
use Rattle.plan_crew.specs.declared.job.Outcome.TheVariants.{Taken, Refused}
use Rattle.plan_crew.specs.Edits.{AreMade, entry_after, taken_before, taken_of, last_of}
use Rattle.plan_crew.specs.Edited.{AreEdits}
use Rattle.plan_crew.specs.Lane.{Says, Answers, Replies}
use Rattle.plan_crew.specs.Round.{IsRound}
use Rattle.plan_crew.specs.Works.{AllSaid}
use Rattle.plan_crew.specs.declared.work.Work.{Work}
use Rattle.plan_crew.proofs.Working.{first_there}
use mathlib.Core.List.{IsPrefix}
use Rattle.plan_crew.proofs.Editing.{defined}
use Rattle.plan_crew.proofs.Prefixes.{get_within, prefix_length}

-- what stands in the list from its old last place on
after_last : {X : Type 0} (before more : List X) (start : X) (last place : ℕ) (x : X)
    → length before ≡ last + 1 → slice_get before last ≡ Some start → last ≤ place → slice_get (before ++ more) place ≡ Some x
    → slice_get (start ∷ more) (place - last) ≡ Some x
after_last [] more start last place x counted there le is = absurd (omega arith)
after_last (y ∷ []) more start zero zero x counted there le is = (cc (there, is))
after_last (y ∷ []) more start zero (suc place) x counted there le is = let same : suc place - 0 ≡ suc place = omega arith in rw same is
after_last (y ∷ []) more start (suc last) place x counted there le is = absurd (omega arith)
after_last (y ∷ z ∷ before) more start zero place x counted there le is = absurd (omega arith)
after_last (y ∷ z ∷ before) more start (suc last) zero x counted there le is = absurd (omega arith)
after_last (y ∷ z ∷ before) more start (suc last) (suc place) x counted there le is =
    let less : suc place - suc last ≡ place - last = omega arith in
    rw less (after_last (z ∷ before) more start last place x (omega arith) there (omega arith) is)

all_as : {X Y : Type 0} (P R : X → Y → Type 0) (xs : List X) (ys : List Y) → ((x : X) (y : Y) → P x y → R x y) → AllZip P xs ys → AllZip R xs ys
all_as P R [] [] f h = tt
all_as P R [] (y ∷ ys) f h = absurd h
all_as P R (x ∷ xs) [] f h = absurd h
all_as P R (x ∷ xs) (y ∷ ys) f h = (f x y h.0, all_as P R xs ys f h.1)

module _ {E C Q F A : Type 0} (version_of : E → ℕ) (makes : E → C → Outcome E F → Type 0) (gives : E → Q → A → Type 0) (rises : (entry : E) (change : C) (next : E) → makes entry change (Taken next) → version_of next ≡ version_of entry + 1) where
  risen : (entry : E) (change : C) (o : Outcome E F) (rest : List E) (place : ℕ) (x : E) → makes entry change o
      → ((place : ℕ) → slice_get (entry_after entry o ∷ rest) place ≡ Some x → version_of x ≡ version_of (entry_after entry o) + place)
      → slice_get (entry ∷ taken_before o rest) place ≡ Some x → version_of x ≡ version_of entry + place
  risen entry change (Taken next) rest zero x made h is = let same : entry ≡ x = cc is in rw same (omega arith)
  risen entry change (Taken next) rest (suc place) x made h is =
      let here = h place is in
      let up = rises entry change next made in
      omega (arith, here, up)
  risen entry change (Refused why) rest place x made h is = h place is

  -- the entry at each place from the start on has the version that many above that of the start
  versions : (start : E) (changes : List C) (outcomes : List (Outcome E F)) (place : ℕ) (x : E) → AreMade makes start changes outcomes
      → slice_get (start ∷ taken_of outcomes) place ≡ Some x → version_of x ≡ version_of start + place
  versions start [] [] zero x made is = let same : start ≡ x = cc is in rw same (omega arith)
  versions start [] [] (suc place) x made is = absurd cc
  versions start [] (o ∷ outcomes) place x made is = absurd made
  versions start (c ∷ changes) [] place x made is = absurd made
  versions start (c ∷ changes) (o ∷ outcomes) place x made is =
      risen start c o (taken_of outcomes) place x made.0 (λ p. versions (entry_after start o) changes outcomes p x made.1) is

  raised : (entry : E) (change : C) (o : Outcome E F) (rest : List E) (last : E) → makes entry change o
      → version_of last ≡ version_of (entry_after entry o) + length rest
      → version_of last ≡ version_of entry + length (taken_before o rest)
  raised entry change (Taken next) rest last made h = let up = rises entry change next made in omega (arith, h, up)
  raised entry change (Refused why) rest last made h = h

  -- that of the last is as many above as were taken
  last_version : (start : E) (changes : List C) (outcomes : List (Outcome E F)) → AreMade makes start changes outcomes
      → version_of (last_of start outcomes) ≡ version_of start + length (taken_of outcomes)
  last_version start [] [] made = omega arith
  last_version start [] (o ∷ outcomes) made = absurd made
  last_version start (c ∷ changes) [] made = absurd made
  last_version start (c ∷ changes) (o ∷ outcomes) made =
      raised start c o (taken_of outcomes) (last_of (entry_after start o) outcomes) made.0 (last_version (entry_after start o) changes outcomes made.1)

  one_reply : (before : List E) (start : E) (outcomes : List (Outcome E F)) (last place : ℕ) (q : Q) (s : ℕ × A)
      → length before ≡ last + 1 → slice_get before last ≡ Some start → last ≤ place
      → Says version_of gives (before ++ taken_of outcomes) place q s
      → Says version_of gives (start ∷ taken_of outcomes) (place - last) q s
  one_reply before start outcomes last place q s counted there le h =
      record { entry = h.entry; there = after_last before (taken_of outcomes) start last place h.entry counted there le h.there; version_is = h.version_is; answer_is = h.answer_is }

  -- a lane's answers, of entries from the old last place on, are replies of the round
  replies_from : (before : List E) (start : E) (changes : List C) (outcomes : List (Outcome E F)) (last from least : ℕ) (questions : List Q) (said : List (ℕ × A))
      → AreMade makes start changes outcomes → length before ≡ last + 1 → slice_get before last ≡ Some start → last ≤ from → least ≤ version_of start + (from - last)
      → Answers version_of gives (before ++ taken_of outcomes) from questions said
      → Replies version_of gives (start ∷ taken_of outcomes) least (version_of (last_of start outcomes)) questions said
  replies_from before start changes outcomes last from least [] [] made counted there le low h = tt
  replies_from before start changes outcomes last from least [] (s ∷ said) made counted there le low h = absurd h
  replies_from before start changes outcomes last from least (q ∷ questions) [] made counted there le low h = absurd h
  replies_from before start changes outcomes last from least (q ∷ questions) (s ∷ said) made counted there le low h =
      let here = one_reply before start outcomes last h.0 q s counted there (omega (arith, le, h.1)) h.2 in
      let within : h.0 - last < length (start ∷ taken_of outcomes) = get_within (start ∷ taken_of outcomes) (h.0 - last) here.entry here.there in
      let version : s.0 ≡ version_of start + (h.0 - last) = here.version_is ∙ versions start changes outcomes (h.0 - last) here.entry made here.there in
      let most = last_version start changes outcomes made in (
        omega (arith, version, low, h.1, le),
        omega (arith, version, most, within),
        (h.0 - last, here),
        replies_from before start changes outcomes last h.0 s.0 questions said made counted there (omega (arith, le, h.1)) (omega (arith, version)) h.3,
      )

  pub all_reply : (before after : List E) (start : E) (changes : List C) (outcomes : List (Outcome E F)) (last : ℕ) (lanes : List (List Q)) (said : List (List (ℕ × A)))
      → AreMade makes start changes outcomes → length before ≡ last + 1 → slice_get before last ≡ Some start → after ≡ before ++ taken_of outcomes
      → AllZip (Answers version_of gives after last) lanes said
      → AllZip (Replies version_of gives (start ∷ taken_of outcomes) (version_of start) (version_of (last_of start outcomes))) lanes said
  all_reply before after start changes outcomes last lanes said made counted there grown h =
      all_as (Answers version_of gives (before ++ taken_of outcomes) last) _ lanes said
      (λ qs ss. replies_from before start changes outcomes last last (version_of start) qs ss made counted there (omega arith) (omega arith))
      (subst (λ (l : List E). AllZip (Answers version_of gives l last) lanes said) grown h)

  -- the round
  pub round_made : (before after : List E) (start : E) (changes : List C) (ends : List (Result ℕ F)) (lanes : List (List Q)) (said : List (List (ℕ × A)))
      → slice_get before (length before - 1) ≡ Some start → AreEdits version_of makes before after changes ends → AllZip (Answers version_of gives after (length before - 1)) lanes said
      → IsRound version_of makes gives before after changes ends lanes said
  round_made before after start changes ends lanes said there edits answers =
      let made = defined version_of makes before after start changes ends there edits in
      let within = get_within before (length before - 1) start there in
      record {
        start = start;
        start_is = there;
        outcomes = made.outcomes;
        are_made = made.are_made;
        ends_are = made.ends_are;
        published = made.published;
        lanes_are = all_reply before after start changes made.outcomes (length before - 1) lanes said made.are_made (omega (arith, within)) there made.published answers;
      }

  -- the round, from what its parts give
  pub round_of : {J Z : Type 0} (before after list : List E) (works : List (Work J E C Q F A)) (lanes : List (Vec Q Z)) (changes : List C) (ends : List (Result ℕ F)) (said : List (List (ℕ × A)))
      → AreEdits version_of makes before after changes ends → list ≡ after → IsPrefix before after → 0 < length list
      → AllSaid version_of gives after (length before - 1) works lanes
      → ((from : ℕ) → from < length list → AllSaid version_of gives list from works lanes → AllZip (Answers version_of gives list from) (map (λ v. v.items) lanes) said)
      → IsRound version_of makes gives before after changes ends (map (λ v. v.items) lanes) said
  round_of before after list works lanes changes ends said edits list_is grown some all told_of =
      let first = first_there version_of makes before after changes ends edits (subst (λ (l : List E). 0 < length l) list_is some) in
      let within = get_within before (length before - 1) first.0 first.1 in
      let more = prefix_length before after grown in
      let last = length before - 1 in
      let given = told_of last (subst (λ (l : List E). last < length l) (sym list_is) (omega (arith, within, more))) (subst (λ (l : List E). AllSaid version_of gives l last works lanes) (sym list_is) all) in
      round_made before after first.0 changes ends (map (λ v. v.items) lanes) said first.1 edits (subst (λ (l : List E). AllZip (Answers version_of gives l last) (map (λ v. v.items) lanes) said) list_is given)
