-- Elements of lists by their numbers.
use Rattle.std.proofs.Common.{ℕ, ◌<◌, List, length, get_or, Any, sym, ◌∙◌, subst}
use Rattle.std.proofs.lemmas.List.{get_or_default}

-- an element that has P, by its number
pub at_number : {X : Type 0} (P : X → Type 0) (xs : List X) (d : X) → Any P xs → (k : ℕ) × (k < length xs) × P (get_or xs k d)
at_number P xs d (k, x, within, is, h) = (k, within, subst P (sym (get_or_default xs k d x within ∙ is)) h)
