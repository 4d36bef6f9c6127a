-- What a polygon of any shape holds, and which polygons are simple. Edge i runs from vertex i to the next, the last edge to vertex 0.
use Rattle.std.specs.Prelude.{◌≡◌, ℕ, ◌+◌, ◌<◌, pos, ◌<ℤ◌, ◌⊎◌, true, List, [], ◌∷◌, length, slice_get, IsSomeAnd, Any}
use Rattle.plan_spec.specs.Vector.{Vector, IsPoint, Same, turn}
use Rattle.plan_spec.specs.Segment.{On}
use Rattle.plan_spec.specs.Parity.{parity}
use Rattle.plan_spec.specs.Polygon.{edges}

-- z is on an edge, or under an odd number of edges: the even-odd rule with the boundary
abbrev pub InPolygon : List Vector → Vector → Type 0
InPolygon vs z = Any (λ s. On s z) (edges vs) ⊎ (parity (edges vs) z ≡ true)

-- z is on edge i
abbrev pub OnEdge : List Vector → ℕ → Vector → Type 0
OnEdge vs i z = IsSomeAnd (slice_get (edges vs) i) (λ s. On s z)

-- z is vertex i
abbrev pub IsVertex : List Vector → ℕ → Vector → Type 0
IsVertex vs i z = IsSomeAnd (slice_get vs i) (Same z)

-- z is the vertex that edges i and j, i < j, have in common as neighbours
abbrev pub IsSharedVertex : List Vector → ℕ → ℕ → Vector → Type 0
IsSharedVertex vs i j z = ((j ≡ i + 1) × IsVertex vs j z) ⊎ ((i ≡ 0) × (j + 1 ≡ length vs) × IsVertex vs 0 z)

-- three vertices, all at one place
abbrev pub AreThreeEqual : List Vector → Type 0
AreThreeEqual (a ∷ b ∷ c ∷ []) = Same a b × Same b c
AreThreeEqual _ = ⊥

-- edges i and j, i < j, share a point other than the vertex that they have in common as neighbours
abbrev pub ShareAnother : List Vector → ℕ → ℕ → Type 0
ShareAnother vs i j = (z : Vector) × IsPoint z × OnEdge vs i z × OnEdge vs j z × ¬ (IsSharedVertex vs i j z)

-- so they do, or the list is the one that these words alone would let through, of three equal vertices, and they are edges 0 and 1
abbrev pub MeetWrongly : List Vector → ℕ → ℕ → Type 0
MeetWrongly vs i j = ShareAnother vs i j ⊎ ((i ≡ 0) × (j ≡ 1) × AreThreeEqual vs)

-- no two edges meet wrongly; vertices at a straight angle are allowed
abbrev pub IsSimple : List Vector → Type 0
IsSimple vs = (i j : ℕ) → i < j → j < length vs → ¬ (MeetWrongly vs i j)

-- edges i and j are the first two that meet wrongly, by i, then by j
pub record IsFirstWrongPair (vs : List Vector) (i j : ℕ) : Type 0 where
  pub ordered : i < j
  pub within : j < length vs
  pub wrong : MeetWrongly vs i j
  pub first : (k l : ℕ) → k < l → l < length vs → (k < i) ⊎ ((k ≡ i) × (l < j)) → ¬ (MeetWrongly vs k l)

-- the last of x and xs
abbrev pub last : Vector → List Vector → Vector
last x [] = x
last x (y ∷ ys) = last y ys

-- from its last vertex over its first to its second the list turns left: a polygon does so at its least vertex where it runs counterclockwise
abbrev pub TurnsLeft : List Vector → Type 0
TurnsLeft (v ∷ w ∷ x ∷ xs) = pos 0 <ℤ turn (last x xs) v w
TurnsLeft _ = ⊥
