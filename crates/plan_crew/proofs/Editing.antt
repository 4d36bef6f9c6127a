-- Changes one after another make of the list what the definitions make of its last entry.
use Rattle.std.proofs.Common.{◌≡◌, ℕ, ◌+◌, ◌-◌, ◌≤◌, List, [], ◌∷◌, ◌++◌, Result, Ok, Err, Some, length, slice_get, refl, sym, ap, ◌∙◌, subst, arith, append_assoc, length-append}
use Rattle.std.specs.Prelude.{IfSome}
use Rattle.std.proofs.lemmas.List.{append-nil}
use Rattle.plan_crew.specs.declared.job.Outcome.{Outcome}
use Rattle.plan_crew.specs.declared.job.Outcome.TheVariants.{Taken, Refused}
use Rattle.plan_crew.specs.Edits.{entry_after, taken_before, taken_of, ends_of, AreMade}
use Rattle.plan_crew.specs.Edited.{IsEdit, AreEdits}

last_added : {X : Type 0} (xs : List X) (x : X) → slice_get (xs ++ x ∷ []) (length xs) ≡ Some x
last_added [] x = refl
last_added (y ∷ xs) x = last_added xs x

module _ {E F : Type 0} where
  -- the last entry after a change
  last_after : (before : List E) (entry : E) (o : Outcome E F) → slice_get before (length before - 1) ≡ Some entry
      → slice_get (before ++ taken_before o []) (length (before ++ taken_before o []) - 1) ≡ Some (entry_after entry o)
  last_after before entry (Taken next) is =
      let at : length (before ++ next ∷ []) - 1 ≡ length before = omega (arith, length-append before (next ∷ [])) in
      rw at (last_added before next)
  last_after before entry (Refused why) is = rw (append-nil before) is

  grown_by : (before : List E) (o : Outcome E F) (rest : List E) → (before ++ taken_before o []) ++ rest ≡ before ++ taken_before o rest
  grown_by before (Taken next) rest = append_assoc before (next ∷ []) rest
  grown_by before (Refused why) rest = rw (append-nil before) refl

  taken_length : (o : Outcome E F) → length (taken_before o []) ≤ 1
  taken_length (Taken next) = omega arith
  taken_length (Refused why) = omega arith

-- what each change made, where ends and new entries are told by it
pub record Defined {E C F : Type 0} (version_of : E → ℕ) (makes : E → C → Outcome E F → Type 0) (before after : List E) (start : E) (changes : List C) (ends : List (Result ℕ F)) : Type 0 where
  pub outcomes : List (Outcome E F)
  pub are_made : AreMade makes start changes outcomes
  pub ends_are : ends ≡ ends_of version_of outcomes
  pub published : after ≡ before ++ taken_of outcomes

module _ {E C F : Type 0} (version_of : E → ℕ) (makes : E → C → Outcome E F → Type 0) where
  pub one_edit_more : (before now after : List E) (changes : List C) (ends : List (Result ℕ F)) (change : C) (end : Result ℕ F)
      → AreEdits version_of makes before now changes ends → IsEdit version_of makes now after change end
      → AreEdits version_of makes before after (changes ++ change ∷ []) (ends ++ end ∷ [])
  one_edit_more before now after [] [] change end h new = (after, subst (λ l. IsEdit version_of makes l after change end) h new, refl)
  one_edit_more before now after [] (e ∷ ends) change end h new = absurd h
  one_edit_more before now after (c ∷ changes) [] change end h new = absurd h
  one_edit_more before now after (c ∷ changes) (e ∷ ends) change end h new = (h.0, h.1, one_edit_more h.0 now after changes ends change end h.2 new)

  -- ends and new entries are those of the definitions
  pub defined : (before after : List E) (start : E) (changes : List C) (ends : List (Result ℕ F))
      → slice_get before (length before - 1) ≡ Some start → AreEdits version_of makes before after changes ends
      → Defined version_of makes before after start changes ends
  defined before after start [] [] is h = record { outcomes = []; are_made = tt; ends_are = refl; published = h ∙ sym (append-nil before) }
  defined before after start [] (e ∷ ends) is h = absurd h
  defined before after start (c ∷ changes) [] is h = absurd h
  defined before after start (c ∷ changes) (e ∷ ends) is h =
      let one = h.1 in
      let o = one.outcome in
      let same : one.entry ≡ start = cc (one.entry_is, is) in
      let last : slice_get h.0 (length h.0 - 1) ≡ Some (entry_after start o) = rw (one.list_is) (last_after before start o is) in
      let rest = defined h.0 after (entry_after start o) changes ends last h.2 in
      record {
        outcomes = o ∷ rest.outcomes;
        are_made = (subst (λ (s : E). makes s c o) same one.is_made, rest.are_made);
        ends_are = cc (one.end_is, rest.ends_are);
        published = rest.published ∙ (ap (λ l. l ++ taken_of rest.outcomes) one.list_is ∙ grown_by before o (taken_of rest.outcomes));
      }

  -- one change that is taken, and one that is refused
  pub edit_taken : (before after : List E) (place : ℕ) (entry next : E) (change : C) (version : ℕ) (o : Outcome E F)
      → length before ≡ place + 1 → slice_get before place ≡ Some entry → makes entry change o → o ≡ Taken next → version ≡ version_of next → after ≡ before ++ next ∷ []
      → IsEdit version_of makes before after change (Ok version)
  edit_taken before after place entry next change version o counted there made taken named grown =
      let at : length before - 1 ≡ place = omega (arith, counted) in
      record { entry = entry; entry_is = rw at there; outcome = Taken next; is_made = subst (makes entry change) taken made; end_is = ap Ok named; list_is = grown }

  pub edit_refused : (before after : List E) (place : ℕ) (entry : E) (why : F) (change : C) (o : Outcome E F)
      → length before ≡ place + 1 → slice_get before place ≡ Some entry → makes entry change o → o ≡ Refused why → after ≡ before
      → IsEdit version_of makes before after change (Err why)
  edit_refused before after place entry why change o counted there made refused same =
      let at : length before - 1 ≡ place = omega (arith, counted) in
      record { entry = entry; entry_is = rw at there; outcome = Refused why; is_made = subst (makes entry change) refused made; end_is = refl; list_is = same ∙ sym (append-nil before) }

  pub edit_length : (before after : List E) (change : C) (end : Result ℕ F) → IsEdit version_of makes before after change end → length after ≤ length before + 1
  edit_length before after change end h =
      let all : length after ≡ length before + length (taken_before h.outcome []) = ap length h.list_is ∙ length-append before (taken_before h.outcome []) in
      omega (arith, all, taken_length h.outcome)

  version_within : (o : Outcome E F) (entry : E) (k m : ℕ) → ((next : E) → o ≡ Taken next → version_of next ≡ version_of entry + 1) → m ≡ k + 1 → version_of entry + m ≤ 2048 → version_of (entry_after entry o) + k ≤ 2048
  version_within (Taken next) entry k m rises is le = omega (arith, rises next refl, is, le)
  version_within (Refused why) entry k m rises is le = omega (arith, is, le)

  -- where versions rise by one, there is room for one version less
  pub edit_version : (before after : List E) (change : C) (end : Result ℕ F) (k m : ℕ)
      → ((entry : E) (change : C) (next : E) → makes entry change (Taken next) → version_of next ≡ version_of entry + 1)
      → IsEdit version_of makes before after change end → m ≡ k + 1 → IfSome (slice_get before (length before - 1)) (λ e. version_of e + m ≤ 2048)
      → IfSome (slice_get after (length after - 1)) (λ e. version_of e + k ≤ 2048)
  edit_version before after change end k m rises h is room =
      let o = h.outcome in
      let last : slice_get after (length after - 1) ≡ Some (entry_after h.entry o) = rw (h.list_is) (last_after before h.entry o h.entry_is) in
      let here : version_of h.entry + m ≤ 2048 = subst (λ s. IfSome s (λ e. version_of e + m ≤ 2048)) h.entry_is room in
      rw last (version_within o h.entry k m (λ next taken. rises h.entry change next (subst (makes h.entry change) taken h.is_made)) is here)
