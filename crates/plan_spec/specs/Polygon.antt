-- Lists of vertices, their edges, and what they hold.
use Rattle.std.specs.Prelude.{pos, ◌<ℤ◌, ◌≤ℤ◌, ◌⊎◌, List, [], ◌∷◌, All, AllPairs}
use Rattle.plan_spec.specs.Vector.{Vector, Same, Before, turn}
use Rattle.plan_spec.specs.Segment.{Segment, segment}

-- from each vertex to the next, and from the last to the one handed in
abbrev pub edges_to : Vector → List Vector → List Segment
edges_to first [] = []
edges_to first (a ∷ []) = segment a first ∷ []
edges_to first (a ∷ (b ∷ vs)) = segment a b ∷ edges_to first (b ∷ vs)

-- the edges of a polygon, each from a vertex to the next one round
abbrev pub edges : List Vector → List Segment
edges [] = []
edges (a ∷ vs) = edges_to a (a ∷ vs)

-- z is on or left of the line from s.a to s.b
abbrev pub OnOrLeft : Vector → Segment → Type 0
OnOrLeft z s = pos 0 ≤ℤ turn s.a s.b z

-- z is on or left of every edge: what a counterclockwise convex polygon holds, its boundary included
abbrev pub Inside : List Vector → Vector → Type 0
Inside vs z = All (OnOrLeft z) (edges vs)

-- p and q are both strictly right of the line from s.a to s.b
abbrev pub AreRight : Vector → Vector → Segment → Type 0
AreRight p q s = (turn s.a s.b p <ℤ pos 0) × (turn s.a s.b q <ℤ pos 0)

-- the vertex v is an end of the edge, or strictly left of it
abbrev pub EndOrLeft : Segment → Vector → Type 0
EndOrLeft s v = Same v s.a ⊎ (Same v s.b ⊎ (pos 0 <ℤ turn s.a s.b v))

-- the first vertex comes before all others
abbrev pub IsFromLeast : List Vector → Type 0
IsFromLeast [] = Unit {0}
IsFromLeast (v ∷ vs) = All (Before v) vs

-- strictly convex and counterclockwise, from the least vertex on: the vertices differ, and of every edge all but its two ends are
-- strictly left, so no three are in line
pub record IsConvex (vs : List Vector) : Type 0 where
  pub least : IsFromLeast vs
  pub distinct : AllPairs (λ a b. ¬ (Same a b)) vs
  pub left : All (λ s. All (EndOrLeft s) vs) (edges vs)
