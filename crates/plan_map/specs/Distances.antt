-- Distances to a goal by what is true of neighbours, and ways down by steps to a nearer one.
use Rattle.std.specs.Prelude.{◌≡◌, ℕ, suc, ◌≤◌, ◌<◌, List, [], ◌∷◌, Option, Some}

-- the distance of n is known, and at most e
pub record IsWithin (dist : ℕ → Option ℕ) (n e : ℕ) : Type 0 where
  pub distance : ℕ
  pub is_some : dist n ≡ Some distance
  pub at_most : distance ≤ e

-- a neighbour at the distance d
pub record Nearer (next : ℕ → ℕ → Type 0) (dist : ℕ → Option ℕ) (n d : ℕ) : Type 0 where
  pub at : ℕ
  pub neighbour : next n at
  pub nearer : dist at ≡ Some d

-- 0 at the goal alone; else some neighbour is nearer by one; and neighbours of what has a distance are at most one farther
pub record AreDistances (next : ℕ → ℕ → Type 0) (goal : ℕ) (dist : ℕ → Option ℕ) : Type 0 where
  pub at_goal : dist goal ≡ Some 0
  pub only_goal : (n : ℕ) → dist n ≡ Some 0 → n ≡ goal
  pub down : (n d : ℕ) → dist n ≡ Some (suc d) → Nearer next dist n d
  pub around : (n m d : ℕ) → next n m → dist m ≡ Some d → IsWithin dist n (suc d)

-- the same of a search that may end once until is seen: neighbours of what is nearer by more than one are known
pub record AreDistancesUntil (next : ℕ → ℕ → Type 0) (goal : ℕ) (until : Option ℕ) (dist : ℕ → Option ℕ) : Type 0 where
  pub at_goal : dist goal ≡ Some 0
  pub only_goal : (n : ℕ) → dist n ≡ Some 0 → n ≡ goal
  pub down : (n d : ℕ) → dist n ≡ Some (suc d) → Nearer next dist n d
  pub around : (n m d : ℕ) → next n m → dist m ≡ Some d → ((r e : ℕ) → until ≡ Some r → dist r ≡ Some e → suc d < e) → IsWithin dist n (suc d)

-- and of distances that are known below a bound
pub record AreDistancesBelow (next : ℕ → ℕ → Type 0) (goal bound : ℕ) (dist : ℕ → Option ℕ) : Type 0 where
  pub only_goal : (n : ℕ) → dist n ≡ Some 0 → n ≡ goal
  pub at_goal : dist goal ≡ Some 0
  pub around : (n m d : ℕ) → next n m → dist m ≡ Some d → suc d < bound → IsWithin dist n (suc d)

-- until is seen
pub record IsReached (until : Option ℕ) (dist : ℕ → Option ℕ) : Type 0 where
  pub region : ℕ
  pub distance : ℕ
  pub until_is : until ≡ Some region
  pub is_some : dist region ≡ Some distance

-- n is the least of the neighbours whose distance is one less
pub record IsLeastStep (next : ℕ → ℕ → Type 0) (dist : ℕ → Option ℕ) (r n : ℕ) : Type 0 where
  pub left : ℕ
  pub from : dist r ≡ Some (suc left)
  pub neighbour : next r n
  pub nearer : dist n ≡ Some left
  pub least : (m : ℕ) → next r m → dist m ≡ Some left → n ≤ m

-- down to the goal by least steps
abbrev pub Descends : (ℕ → ℕ → Type 0) → (ℕ → Option ℕ) → ℕ → List ℕ → Type 0
Descends next dist r [] = dist r ≡ Some 0
Descends next dist r (n ∷ ns) = IsLeastStep next dist r n × Descends next dist n ns

-- the same of a list with r at its head
abbrev pub DescendsFrom : (ℕ → ℕ → Type 0) → (ℕ → Option ℕ) → ℕ → List ℕ → Type 0
DescendsFrom next dist r [] = ⊥
DescendsFrom next dist r (n ∷ ns) = (n ≡ r) × Descends next dist n ns
