-- Walks in a graph whose nodes are numbers, the first of the shortest, and connected components.
use Rattle.std.specs.Prelude.{◌≡◌, ◌⊎◌, ◌↔◌, ℕ, ◌<◌, List, [], ◌∷◌, length, AllPairs, Contains}

-- the numbers lead from m to n: the first is a neighbour of m, each a neighbour of the one before, and the last is n
abbrev pub Leads : (ℕ → ℕ → Type 0) → ℕ → ℕ → List ℕ → Type 0
Leads next n m [] = m ≡ n
Leads next n m (k ∷ ks) = next m k × Leads next n k ks

-- a walk from m to n, with m at its head
abbrev pub IsWalk : (ℕ → ℕ → Type 0) → ℕ → ℕ → List ℕ → Type 0
IsWalk next m n [] = ⊥
IsWalk next m n (k ∷ ks) = (k ≡ m) × Leads next n k ks

-- in list order not after the other: the same, or less at the first place where they differ
abbrev pub NotAfter : List ℕ → List ℕ → Type 0
NotAfter [] ks = Unit {0}
NotAfter (m ∷ ms) [] = ⊥
NotAfter (m ∷ ms) (k ∷ ks) = (m < k) ⊎ ((m ≡ k) × NotAfter ms ks)

-- of the walks with the fewest numbers the first in list order
pub record IsFirstWalk (next : ℕ → ℕ → Type 0) (m n : ℕ) (walk : List ℕ) : Type 0 where
  pub is_walk : IsWalk next m n walk
  pub first : (other : List ℕ) → IsWalk next m n other → (length walk < length other) ⊎ ((length walk ≡ length other) × NotAfter walk other)

-- a walk leads from m to n
abbrev pub AreJoined : (ℕ → ℕ → Type 0) → ℕ → ℕ → Type 0
AreJoined next m n = (walk : List ℕ) × IsWalk next m n walk

-- the connected component of m: all that a walk joins to it, rising
pub record IsComponent (next : ℕ → ℕ → Type 0) (m : ℕ) (ns : List ℕ) : Type 0 where
  pub rising : AllPairs (λ i j. i < j) ns
  pub members : (n : ℕ) → Contains ns n ↔ AreJoined next m n
