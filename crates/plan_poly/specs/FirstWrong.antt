-- The first edge that meets a given one wrongly.
use Rattle.std.specs.Prelude.{ℕ, ◌<◌, List, length}
use Rattle.plan_spec.specs.Vector.{Vector}
use Rattle.plan_spec.specs.SimplePolygon.{MeetWrongly}

-- no edge after edge i and before edge n meets it wrongly
abbrev pub MeetsNoneBelow : List Vector → ℕ → ℕ → Type 0
MeetsNoneBelow vs i n = (j : ℕ) → i < j → j < n → ¬ (MeetWrongly vs i j)

-- no edge after edge i meets it wrongly
abbrev pub MeetsNone : List Vector → ℕ → Type 0
MeetsNone vs i = MeetsNoneBelow vs i (length vs)

-- edge j is the first one after edge i that meets it wrongly
pub record IsFirstAfter (vs : List Vector) (i j : ℕ) : Type 0 where
  pub ordered : i < j
  pub within : j < length vs
  pub wrong : MeetWrongly vs i j
  pub first : MeetsNoneBelow vs i j
