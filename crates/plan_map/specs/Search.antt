-- A search from a goal: what is seen, in order, of which all before the head have their neighbours seen, and the distances.
use Rattle.std.specs.Prelude.{◌≡◌, ℕ, suc, ◌-◌, ◌≤◌, ◌<◌, List, [], ◌∷◌, ◌++◌, length, get_or, Option, Some, None, ◌↔◌, AllPairs, Contains}
use lib.ListN.{set}
use Rattle.std.specs.List.{range_with_len}
use Rattle.plan_map.specs.Distances.{IsWithin, Nearer}

-- what is seen, and the distance of each that is
pub record State : Type 0 where
  pub seen : List ℕ
  pub dist : List (Option ℕ)

abbrev pub state : List ℕ → List (Option ℕ) → State
state seen dist = record { seen = seen; dist = dist }

abbrev pub at : List (Option ℕ) → ℕ → Option ℕ
at dist n = get_or dist n None

abbrev pub nth : List ℕ → ℕ → ℕ
nth seen k = get_or seen k 0

-- n is seen at a distance, unless it was before
abbrev pub visit : ℕ → ℕ → State → State
visit n steps s = elim (at s.dist n) [ None ↦ record { seen = s.seen ++ n ∷ []; dist = set s.dist n (Some steps) } | Some e ↦ s ]

abbrev pub visits : List ℕ → ℕ → State → State
visits [] steps s = s
visits (n ∷ ns) steps s = visits ns steps (visit n steps s)

pub record Listed (seen : List ℕ) (n : ℕ) : Type 0 where
  pub place : ℕ
  pub within : place < length seen
  pub is : nth seen place ≡ n

pub record Measured (dist : List (Option ℕ)) (n : ℕ) : Type 0 where
  pub distance : ℕ
  pub is_some : at dist n ≡ Some distance

-- what is seen is what has a distance, and stands once; distances never fall, and are at most one more than at the head; what is before the head has its neighbours seen
pub record IsSearch (next : ℕ → ℕ → Type 0) (count goal : ℕ) (seen : List ℕ) (head : ℕ) (dist : List (Option ℕ)) : Type 0 where
  pub size : length dist ≡ count
  pub below : (k : ℕ) → k < length seen → nth seen k < count
  pub once : (i j : ℕ) → i < j → j < length seen → ¬ (nth seen i ≡ nth seen j)
  pub listed : (n d : ℕ) → at dist n ≡ Some d → Listed seen n
  pub measured : (k : ℕ) → k < length seen → Measured dist (nth seen k)
  pub at_goal : at dist goal ≡ Some 0
  pub only_goal : (n : ℕ) → at dist n ≡ Some 0 → n ≡ goal
  pub down : (n d : ℕ) → at dist n ≡ Some (suc d) → Nearer next (at dist) n d
  pub rises : (i j d e : ℕ) → i ≤ j → j < length seen → at dist (nth seen i) ≡ Some d → at dist (nth seen j) ≡ Some e → d ≤ e
  pub behind : (k d : ℕ) → k < length seen → at dist (nth seen k) ≡ Some d → d ≤ k
  pub near : (j d e : ℕ) → head < length seen → j < length seen → at dist (nth seen head) ≡ Some d → at dist (nth seen j) ≡ Some e → e ≤ suc d
  pub around : (i n d : ℕ) → i < head → i < length seen → next n (nth seen i) → at dist (nth seen i) ≡ Some d → IsWithin (at dist) n (suc d)

-- ---- neighbours by number
-- the numbers from a to below b
abbrev pub numbers : ℕ → ℕ → List ℕ
numbers a b = range_with_len a (b - a)

-- the row of r: its neighbours, rising
pub record IsRow (next : ℕ → ℕ → Type 0) (r : ℕ) (row : List ℕ) : Type 0 where
  pub exact : (n : ℕ) → Contains row n ↔ next n r
  pub rising : AllPairs (λ m n. m < n) row

-- the first of the numbers that has P
pub record IsFirstOf (P : ℕ → Type 0) (ns : List ℕ) (n : ℕ) : Type 0 where
  pub place : ℕ
  pub within : place < length ns
  pub is : get_or ns place 0 ≡ n
  pub has : P n
  pub earlier : (j : ℕ) → j < place → ¬ (P (get_or ns j 0))

-- the numbers below count that have a distance, rising
pub record AreMeasured (dist : List (Option ℕ)) (count : ℕ) (ns : List ℕ) : Type 0 where
  pub exact : (n : ℕ) → Contains ns n ↔ ((n < count) × Measured dist n)
  pub rising : AllPairs (λ m n. m < n) ns
