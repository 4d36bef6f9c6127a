-- Edits as the list of published entries shows them.
use Rattle.std.specs.Prelude.{◌≡◌, ℕ, ◌-◌, List, [], ◌∷◌, ◌++◌, Result, Ok, Err, Some, length, slice_get}
use Rattle.plan_crew.specs.declared.job.Outcome.{Outcome}
use Rattle.plan_crew.specs.declared.ends.EditEnd.{EditEnd}
use Rattle.plan_crew.specs.declared.ends.EditEnd.TheVariants.{Accepted, Refused}
use Rattle.plan_crew.specs.Edits.{end_of, taken_before}

-- an end as the definitions see it
abbrev pub end_seen : {J E C Q F A : Type 0} → EditEnd J E C Q F A → Result ℕ F
end_seen (Accepted version) = Ok version
end_seen (Refused why) = Err why

module _ {E C F : Type 0} (version_of : E → ℕ) (makes : E → C → Outcome E F → Type 0) where
  -- one change of the last entry
  pub record IsEdit (before after : List E) (change : C) (end : Result ℕ F) : Type 0 where
    pub entry : E
    pub entry_is : slice_get before (length before - 1) ≡ Some entry
    pub outcome : Outcome E F
    pub is_made : makes entry change outcome
    pub end_is : end ≡ end_of version_of outcome
    pub list_is : after ≡ before ++ taken_before outcome []

  -- changes one after another
  abbrev pub AreEdits : List E → List E → List C → List (Result ℕ F) → Type 0
  AreEdits before after [] [] = after ≡ before
  AreEdits before after [] (end ∷ ends) = ⊥
  AreEdits before after (change ∷ changes) [] = ⊥
  AreEdits before after (change ∷ changes) (end ∷ ends) = (between : List E) × IsEdit before between change end × AreEdits between after changes ends
