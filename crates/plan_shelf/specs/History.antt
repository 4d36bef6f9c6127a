-- The rule of the history, and what the step that adds to it tells.
use Rattle.std.specs.Prelude.{ℕ, ◌≡◌, true, List, [], ◌∷◌, ◌++◌, length}
use Rattle.logbook.specs.Pages.{Cell, Step, View, Book, Named}

-- the first word is the length of the history. A book has two words, of which this one leaves the second at 0
pub record IsKept {T : Type 0} (cells : List Cell) (log : List T) : Type 0 where
  pub words : cells ≡ (length log, true) ∷ (0, true) ∷ []

-- the word that has the length of the history of this shelf
abbrev pub head_of : Book → Named
head_of shelf = record { tracked = true; key = 0; book = shelf }

-- where the length was as asked, the entry was added to all that had been seen
abbrev pub Adds : {T : Type 0} → Step T → View T ℕ → ℕ → View T ℕ → Type 0
Adds s v found w = found ≡ s.old → w.0 ≡ v.0 ++ s.ask ∷ []
