-- What a lane says.
use Rattle.std.specs.Prelude.{◌≡◌, ℕ, ◌≤◌, List, [], ◌∷◌, Some, slice_get}

module _ {E Q A : Type 0} (version_of : E → ℕ) (gives : E → Q → A → Type 0) where
  -- the entry at this place of the list has this version, and gives this answer
  pub record Says (list : List E) (place : ℕ) (question : Q) (said : ℕ × A) : Type 0 where
    pub entry : E
    pub there : slice_get list place ≡ Some entry
    pub version_is : said.0 ≡ version_of entry
    pub answer_is : gives entry question said.1

  -- one answer for each question, in order, each of an entry of the list. Their places never fall, and the first is at least this one
  abbrev pub Answers : List E → ℕ → List Q → List (ℕ × A) → Type 0
  Answers list from [] [] = Unit {0}
  Answers list from [] (s ∷ said) = ⊥
  Answers list from (q ∷ questions) [] = ⊥
  Answers list from (q ∷ questions) (s ∷ said) = (place : ℕ) × (from ≤ place) × Says list place q s × Answers list place questions said

  -- one answer for each question, in order. Each names a version, at least this one, at least that of the answer before, and at most the other, and is the answer of the entry of that version
  abbrev pub Replies : List E → ℕ → ℕ → List Q → List (ℕ × A) → Type 0
  Replies entries least most [] [] = Unit {0}
  Replies entries least most [] (s ∷ said) = ⊥
  Replies entries least most (q ∷ questions) [] = ⊥
  Replies entries least most (q ∷ questions) (s ∷ said) = (least ≤ s.0) × (s.0 ≤ most) × ((place : ℕ) × Says entries place q s) × Replies entries s.0 most questions said
