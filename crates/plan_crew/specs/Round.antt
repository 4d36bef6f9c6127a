-- A lawful round, as lists of entries, changes, ends, questions and answers.
use Rattle.std.specs.Prelude.{◌≡◌, ℕ, ◌-◌, List, ◌∷◌, ◌++◌, Result, Some, length, slice_get}
use Rattle.std.specs.List.{AllZip}
use Rattle.plan_crew.specs.declared.job.Outcome.{Outcome}
use Rattle.plan_crew.specs.Edits.{AreMade, ends_of, taken_of, last_of}
use Rattle.plan_crew.specs.Lane.{Replies}

module _ {E C Q F A : Type 0} (version_of : E → ℕ) (makes : E → C → Outcome E F → Type 0) (gives : E → Q → A → Type 0) where
  -- what a round makes of the published entries, its changes and the questions of its lanes
  pub record IsRound (before after : List E) (changes : List C) (ends : List (Result ℕ F)) (lanes : List (List Q)) (said : List (List (ℕ × A))) : Type 0 where
    -- the last entry that was published before
    pub start : E
    pub start_is : slice_get before (length before - 1) ≡ Some start
    -- what the job's meaning makes of the changes, one after another
    pub outcomes : List (Outcome E F)
    pub are_made : AreMade makes start changes outcomes
    -- one end for each change, in order
    pub ends_are : ends ≡ ends_of version_of outcomes
    -- the entries that are taken are published, in order
    pub published : after ≡ before ++ taken_of outcomes
    -- the answers of each lane, in order: versions that never fall, between that at the start and that at the end, each with an answer of the entry of that version
    pub lanes_are : AllZip (Replies version_of gives (start ∷ taken_of outcomes) (version_of start) (version_of (last_of start outcomes))) lanes said
