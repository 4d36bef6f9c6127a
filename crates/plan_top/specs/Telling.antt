-- What is told of edits that have ended: each that is accepted by its version, with the number of obstacles then.
use Rattle.std.specs.Prelude.{ℕ, ◌+◌, ◌-◌, ◌<◌, List, [], ◌∷◌, ◌++◌, Result, Ok, Err}
use Rattle.plan_scene.specs.declared.edit.Edit.{Edit}
use Rattle.plan_scene.specs.declared.edit.Edit.TheVariants.{Add, Remove}
use Rattle.plan_top.specs.Watching.{Pair}

-- how many obstacles there are after an edit that is accepted, of so many before
abbrev pub count_after : ℕ → Edit → ℕ
count_after n (Add id spots) = n + 1
count_after n (Remove id) = n - 1

-- so many leave room for one more, or have one to go
abbrev pub Leaves : ℕ → Edit → Type 0
Leaves n (Add id spots) = n < 64
Leaves n (Remove id) = 0 < n

module _ {F : Type 0} where
  -- of one edit: how many there are after it, what is told, and whether it can end so
  abbrev pub count_ended : ℕ → Edit → Result ℕ F → ℕ
  count_ended n e (Ok version) = count_after n e
  count_ended n e (Err why) = n

  abbrev pub pair_ended : ℕ → Edit → Result ℕ F → List Pair
  pair_ended n e (Ok version) = (version, count_after n e) ∷ []
  pair_ended n e (Err why) = []

  abbrev pub CanEnd : ℕ → Edit → Result ℕ F → Type 0
  CanEnd n e (Ok version) = Leaves n e
  CanEnd n e (Err why) = Unit {0}

  -- the same of edits one after another
  abbrev pub count_told : ℕ → List Edit → List (Result ℕ F) → ℕ
  count_told n [] ends = n
  count_told n (e ∷ edits) [] = n
  count_told n (e ∷ edits) (end ∷ ends) = count_told (count_ended n e end) edits ends

  abbrev pub pairs_told : ℕ → List Edit → List (Result ℕ F) → List Pair
  pairs_told n [] ends = []
  pairs_told n (e ∷ edits) [] = []
  pairs_told n (e ∷ edits) (end ∷ ends) = pair_ended n e end ++ pairs_told (count_ended n e end) edits ends

  abbrev pub CanAllEnd : ℕ → List Edit → List (Result ℕ F) → Type 0
  CanAllEnd n [] [] = Unit {0}
  CanAllEnd n [] (end ∷ ends) = ⊥
  CanAllEnd n (e ∷ edits) [] = ⊥
  CanAllEnd n (e ∷ edits) (end ∷ ends) = CanEnd n e end × CanAllEnd (count_ended n e end) edits ends
