-- What a list of changes does to an entry, one after another.
use Rattle.std.specs.Prelude.{ℕ, List, [], ◌∷◌, Result, Ok, Err, map}
use Rattle.plan_crew.specs.declared.job.Outcome.{Outcome}
use Rattle.plan_crew.specs.declared.job.Outcome.TheVariants.{Taken, Refused}

module _ {E F : Type 0} where
  -- the entry after a change: a refused one keeps it
  abbrev pub entry_after : E → Outcome E F → E
  entry_after entry (Taken next) = next
  entry_after entry (Refused why) = entry

  -- the entry that is taken before these, if it is
  abbrev pub taken_before : Outcome E F → List E → List E
  taken_before (Taken next) rest = next ∷ rest
  taken_before (Refused why) rest = rest

  -- the entries that are taken, in order
  abbrev pub taken_of : List (Outcome E F) → List E
  taken_of [] = []
  taken_of (o ∷ outcomes) = taken_before o (taken_of outcomes)

  -- the last entry, from this one on
  abbrev pub last_of : E → List (Outcome E F) → E
  last_of entry [] = entry
  last_of entry (o ∷ outcomes) = last_of (entry_after entry o) outcomes

  module _ (version_of : E → ℕ) where
    -- how a change ends: with the new entry's version, or with the refusal
    abbrev pub end_of : Outcome E F → Result ℕ F
    end_of (Taken next) = Ok (version_of next)
    end_of (Refused why) = Err why

    -- how each change ends
    abbrev pub ends_of : List (Outcome E F) → List (Result ℕ F)
    ends_of outcomes = map end_of outcomes

-- one outcome for each change, in order: what it makes of the entry after the change before
module _ {E C F : Type 0} (makes : E → C → Outcome E F → Type 0) where
  abbrev pub AreMade : E → List C → List (Outcome E F) → Type 0
  AreMade entry [] [] = Unit {0}
  AreMade entry [] (o ∷ outcomes) = ⊥
  AreMade entry (change ∷ changes) [] = ⊥
  AreMade entry (change ∷ changes) (o ∷ outcomes) = makes entry change o × AreMade (entry_after entry o) changes outcomes
