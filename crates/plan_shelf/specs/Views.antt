-- What the views of the two copies say.
use Rattle.std.specs.Prelude.{◌≡◌, ℕ, List, Option, Some, None}
use mathlib.Core.Option.{some}
use lib.ListN.{get_elem?}
use Rattle.logbook.specs.Pages.{Book}
use Rattle.logbook.specs.declared.tokens.Seen.{Seen}

module _ {T H : Type 0} where
  -- the view is of this shelf, or of none
  abbrev pub IsOf : Book → Option (Seen T ℕ H) → Type 0
  IsOf shelf None = Unit {0}
  IsOf shelf (Some s) = s.book ≡ shelf

  -- each of the views is
  abbrev pub AllOf : Book → List (Option (Seen T ℕ H)) → Type 0
  AllOf shelf views = (seat : ℕ) (v : Option (Seen T ℕ H)) → get_elem? views seat ≡ some v → IsOf shelf v

  -- the view is of this shelf
  abbrev pub Knows : Book → Option (Seen T ℕ H) → Type 0
  Knows shelf None = ⊥
  Knows shelf (Some s) = s.book ≡ shelf
