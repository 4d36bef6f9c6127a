-- Polylines, and those along which the robot never touches.
use Rattle.std.specs.Prelude.{◌⊎◌, List, [], ◌∷◌, All, Any}
use Rattle.plan_spec.specs.Vector.{Vector, IsPoint, Same}
use Rattle.plan_spec.specs.Segment.{Segment, segment, On}
use Rattle.plan_spec.specs.Placement.{Scene, IsClear}

-- the segments between neighbours of the list that begins with p
abbrev pub segments_from : Vector → List Vector → List Segment
segments_from p [] = []
segments_from p (q ∷ qs) = segment p q ∷ segments_from q qs

-- the segments between neighbours of the list
abbrev pub segments : List Vector → List Segment
segments [] = []
segments (p ∷ ps) = segments_from p ps

-- the segments of a path, numbered from 0; a path of one point has the one segment from that point to itself
abbrev pub legs : List Vector → List Segment
legs [] = []
legs (p ∷ []) = segment p p ∷ []
legs (p ∷ (q ∷ ps)) = segments (p ∷ (q ∷ ps))

-- z is a point of the list, or on a segment between neighbours
abbrev pub OnRoute : List Vector → Vector → Type 0
OnRoute route z = Any (λ p. Same p z) route ⊎ Any (λ s. On s z) (segments route)

-- the first point of the list is s
abbrev pub StartsAt : Vector → List Vector → Type 0
StartsAt s [] = ⊥
StartsAt s (p ∷ ps) = Same p s

-- the last point of the list is g
abbrev pub EndsAt : Vector → List Vector → Type 0
EndsAt g [] = ⊥
EndsAt g (p ∷ []) = Same p g
EndsAt g (p ∷ (q ∷ ps)) = EndsAt g (q ∷ ps)

-- a nonempty list of points that begins at s and ends at g
pub record IsRoute (s g : Vector) (route : List Vector) : Type 0 where
  pub points : All IsPoint route
  pub starts : StartsAt s route
  pub ends : EndsAt g route

-- a route all of whose rational points are clear, whatever their denominators
pub record IsClearPolyline (scene : Scene) (s g : Vector) (route : List Vector) : Type 0 where
  pub is_route : IsRoute s g route
  pub is_clear : (z : Vector) → IsPoint z → OnRoute route z → IsClear scene z
