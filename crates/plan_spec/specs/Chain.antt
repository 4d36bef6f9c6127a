-- Chains of segments: closed, held, and what they block. A chain need not be one loop.
use Rattle.std.specs.Prelude.{◌≡◌, Bool, true, false, List, [], ◌∷◌, All, Any}
use Rattle.plan_spec.specs.Vector.{Vector, IsPoint, Same, same}
use Rattle.plan_spec.specs.Segment.{Segment, On, AllOn}
use Rattle.plan_spec.specs.Parity.{parity, xor}
use Rattle.plan_spec.specs.Placement.{Scene, Touches}
use Rattle.plan_spec.specs.Route.{OnRoute}

-- whether z is an end of the segments an odd number of times, by position and not by triple
abbrev pub odd_end : List Segment → Vector → Bool
odd_end [] z = false
odd_end (s ∷ ss) z = xor (xor (same s.a z) (same s.b z)) (odd_end ss z)

-- every point is an end an even number of times
abbrev pub IsClosed : List Segment → Type 0
IsClosed chain = (z : Vector) → IsPoint z → odd_end chain z ≡ false

-- the ends are points, and two different ones
abbrev pub IsProper : Segment → Type 0
IsProper s = IsPoint s.a × IsPoint s.b × ¬ (Same s.a s.b)

-- every point of every segment touches
abbrev pub IsHeld : Scene → List Segment → Type 0
IsHeld scene chain = All (AllOn (Touches scene)) chain

-- closed and held, odd at s and even at g
pub record Blocks (scene : Scene) (s g : Vector) (chain : List Segment) : Type 0 where
  pub proper : All IsProper chain
  pub closed : IsClosed chain
  pub held : IsHeld scene chain
  pub odd : parity chain s ≡ true
  pub even : parity chain g ≡ false

-- some rational point of the route is on a segment of the chain
abbrev pub Crosses : List Vector → List Segment → Type 0
Crosses route chain = (z : Vector) × IsPoint z × OnRoute route z × Any (λ s. On s z) chain
