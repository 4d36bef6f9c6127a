-- The neighbours of each region, as lists.
use Rattle.std.specs.Prelude.{ℕ, ◌<◌, List, ◌++◌, length, get_or, AllPairs, Contains}
use Rattle.plan_slab.specs.declared.row.Row.{Row}
use Rattle.plan_map.specs.Search.{numbers}

abbrev pub numbers_of : Row → List ℕ
numbers_of row = numbers row.left.start row.left.end ++ numbers row.right.start row.right.end

-- what reading beyond the end of a list gives
abbrev pub no_row : Row
no_row = record { left = record { start = 0; end = 0 }; right = record { start = 0; end = 0 } }

-- m is a neighbour of n: it is in the row of n
abbrev pub in_row : List Row → ℕ → ℕ → Type 0
in_row rows m n = Contains (numbers_of (get_or rows n no_row)) m

-- rising rows of numbers below how many there are, each in the rows of those in its own
pub record AreRows (rows : List Row) : Type 0 where
  pub within : (m n : ℕ) → in_row rows m n → m < length rows
  pub rising : (n : ℕ) → n < length rows → AllPairs (λ i j. i < j) (numbers_of (get_or rows n no_row))
  pub both_ways : (m n : ℕ) → in_row rows m n → in_row rows n m
