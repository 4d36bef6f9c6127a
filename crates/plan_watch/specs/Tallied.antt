-- What contracts see of a tally.
use Rattle.std.specs.Prelude.{ℕ, List}

-- the pairs that it was told, and for how many more it has room
pub record Tallied : Type 0 where
  pub pairs : List (ℕ × ℕ)
  pub room : ℕ
