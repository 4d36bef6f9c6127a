-- When what readers take is the editor's own.
use Rattle.std.specs.Prelude.{◌≡◌, ℕ, List, Option, Some, None}
use Rattle.logbook.specs.Pages.{Book}
use Rattle.logbook.specs.declared.tokens.Seen.{Seen}
use Rattle.left_right.specs.declared.writer.Writer.{Writer}
use Rattle.left_right.specs.declared.Absorb.{Ghosts}
use Rattle.left_right.specs.Sides.{view}
use Rattle.plan_shelf.specs.declared.told.Told.{Told}
use Rattle.plan_shelf.specs.declared.rule.Shown.{Shown}
use Rattle.plan_shelf.specs.Known.{Edited}
use Rattle.plan_shelf.specs.Views.{Knows}

module _ {T H A P S : Type 0} {g : Ghosts (Shown T) (Told T) S} where
  -- what is shown ends this list of this shelf, and the writer has seen the shelf
  pub record Shows (shelf : Book) (list : List T) (w : Writer (Shown T) (Told T) (Option (Seen T ℕ H)) P A S g) : Type 0 where
    pub shelf_is : w.desk.shown.value.told.seen.book ≡ shelf
    pub list_is : w.desk.shown.value.told.seen.log ≡ list
    pub knows : Knows shelf (view w.desk.place)

  -- there is a writer, and it is so
  abbrev pub HasShown : Book → List T → Option (Writer (Shown T) (Told T) (Option (Seen T ℕ H)) P A S g) → Type 0
  HasShown shelf list None = ⊥
  HasShown shelf list (Some w) = Shows shelf list w

  -- what the editor shows is the last of its own list, of its own shelf. `start` makes it so, and `publish` keeps it
  abbrev pub IsTied : Edited (Writer (Shown T) (Told T) (Option (Seen T ℕ H)) P A S g) T → Type 0
  IsTied e = HasShown e.shelf e.list e.writer
