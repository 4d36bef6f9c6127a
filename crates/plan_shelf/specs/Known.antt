-- What contracts see of the shelf's ends.
use Rattle.std.specs.Prelude.{◌≡◌, ◌-◌, List, length, slice_get, Option, Some}
use mathlib.Core.List.{IsPrefix}
use Rattle.logbook.specs.Pages.{Book}

-- a reader: its shelf, and the list of the entries that it knows
pub record Known (T : Type 0) : Type 0 where
  pub shelf : Book
  pub list : List T

-- an editor: its shelf, the list of the entries that it has published, and what writes the copies that readers take
pub record Edited (W T : Type 0) : Type 0 where
  pub shelf : Book
  pub list : List T
  pub writer : Option W

-- a look goes on from the list before, and this entry is the last
pub record Looked {T : Type 0} (before after : Known T) (entry : T) : Type 0 where
  pub shelf : after.shelf ≡ before.shelf
  pub list : IsPrefix before.list after.list
  pub last : slice_get after.list (length after.list - 1) ≡ Some entry
