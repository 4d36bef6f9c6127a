-- How one value stands to another, as an `Ordering` says it.
use Rattle.std.specs.Prelude.{◌≡◌, ℤ, pos, ◌<ℤ◌}
use Rattle.std.specs.Ordering.{MatchOrdering}
use Rattle.std.specs.declared.cmp.Ordering.{Ordering}
use Rattle.plan_spec.specs.Vector.{Vector, Before, Same}

-- a to b
abbrev pub IsOrder : Ordering → ℤ → ℤ → Type 0
IsOrder o a b = MatchOrdering o (a <ℤ b) (a ≡ b) (b <ℤ a)

-- a to 0
abbrev pub IsSign : Ordering → ℤ → Type 0
IsSign o a = IsOrder o a (pos 0)

-- p to q: by x, then by y
abbrev pub IsPointOrder : Ordering → Vector → Vector → Type 0
IsPointOrder o p q = MatchOrdering o (Before p q) (Same p q) (Before q p)
