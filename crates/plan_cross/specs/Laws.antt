-- The parity laws of closed chains, over every rational point: why a closed chain that is held by collisions separates the
-- two sides of it.
use Rattle.std.specs.Prelude.{◌≡◌, true, false, List, All}
use Rattle.plan_spec.specs.Vector.{Vector, IsPoint, SameX, LeX, LtY}
use Rattle.plan_spec.specs.Segment.{Segment, On, segment, HasPoints, Common, Misses}
use Rattle.plan_spec.specs.Parity.{over, parity, xor, counted}
use Rattle.plan_spec.specs.Placement.{Scene}
use Rattle.plan_spec.specs.Route.{IsRoute, IsClearPolyline}
use Rattle.plan_spec.specs.Chain.{IsClosed, Blocks, Crosses}

-- z is a point of s, u one of t, and the two have one x
abbrev pub AreAtOneX : Segment → Segment → Vector → Vector → Type 0
AreAtOneX s t z u = IsPoint z × IsPoint u × On s z × On t u × SameX z u

-- of two segments without a common point, the one that is below the other at one x, at z under u, is below it at every x that
-- both have, as at v under w
abbrev pub TwoSegments : Type 0
TwoSegments =
    (s t : Segment) → HasPoints s → HasPoints t → ¬ (Common s t)
    → (z u v w : Vector) → AreAtOneX s t z u → AreAtOneX s t v w → LtY z u → LtY v w

-- a segment that misses the way from p to q, with q not left of p, stands over one of the two alone exactly where one of its
-- ends alone is above the way, right of p and not right of q
abbrev pub OneSegment : Type 0
OneSegment =
    (s : Segment) (p q : Vector) → HasPoints s → IsPoint p → IsPoint q → LeX p q → ¬ (Common (segment p q) s)
    → xor (over s p) (over s q) ≡ xor (counted p q s.a) (counted p q s.b)

-- two points have one parity in a closed chain that misses the segment between them
abbrev pub ClosedChain : Type 0
ClosedChain =
    (chain : List Segment) (p q : Vector) → All HasPoints chain → IsClosed chain → IsPoint p → IsPoint q
    → Misses (segment p q) chain → parity chain p ≡ parity chain q

-- a route from a point of odd parity in a closed chain to one of even parity has a point of the chain
abbrev pub RouteBetween : Type 0
RouteBetween =
    (chain : List Segment) (s g : Vector) (route : List Vector) → All HasPoints chain → IsClosed chain → IsPoint s → IsPoint g
    → parity chain s ≡ true → parity chain g ≡ false → IsRoute s g route → Crosses route chain

-- where a chain blocks s from g, no clear polyline leads from s to g
abbrev pub Blocked : Type 0
Blocked =
    (scene : Scene) (s g : Vector) (chain : List Segment) → IsPoint s → IsPoint g → Blocks scene s g chain
    → (route : List Vector) → ¬ (IsClearPolyline scene s g route)
