-- The ends of a list of segments, and those that are ends an odd number of times.
use Rattle.std.specs.Prelude.{◌≡◌, ◌↔◌, ◌⊎◌, true, List, [], ◌∷◌, All, AllPairs, Any, if◌then◌else◌}
use Rattle.std.specs.declared.cmp.Ordering.TheVariants.{Less}
use Rattle.plan_spec.specs.Vector.{Vector, IsPoint, Same}
use Rattle.plan_spec.specs.Segment.{Segment, HasPoints}
use Rattle.plan_spec.specs.Chain.{odd_end}
use Rattle.plan_grid.specs.PointOrder.{point_cmp, point_eq}

-- both ends of each segment
abbrev pub ends : List Segment → List Vector
ends [] = []
ends (s ∷ ss) = s.a ∷ (s.b ∷ ends ss)

-- the list without pairs of neighbours at one position: of a sorted list, one of each position that it has an odd number of times
abbrev pub unpaired : List Vector → List Vector
unpaired [] = []
unpaired (a ∷ []) = a ∷ []
unpaired (a ∷ (b ∷ rest)) = if point_eq a b then unpaired rest else (a ∷ unpaired (b ∷ rest))

-- each point comes before all later ones
abbrev pub Rises : List Vector → Type 0
Rises ps = AllPairs (λ p q. point_cmp p q ≡ Less) ps

-- an end of the segment stands in the list
abbrev pub EndsIn : List Vector → Segment → Type 0
EndsIn ps s = Any (λ p. Same p s.a) ps ⊎ Any (λ p. Same p s.b) ps

-- the points that are ends of the segments an odd number of times, rising, each once
pub record AreOddEnds (ss : List Segment) (ps : List Vector) : Type 0 where
  pub of_points : All HasPoints ss
  pub points : All IsPoint ps
  pub rises : Rises ps
  pub odd : (z : Vector) → IsPoint z → (odd_end ss z ≡ true) ↔ Any (λ p. Same p z) ps
