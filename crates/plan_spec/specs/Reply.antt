-- What makes a path or a chain an accepted certificate, and the first of its faults. Segments are numbered from 0.
use Rattle.std.specs.Prelude.{◌≡◌, ℕ, ◌<◌, ◌⊎◌, true, false, List, [], slice_get, IfSome, IsSomeAnd, All, Any}
use Rattle.plan_spec.specs.Vector.{Vector, LeX, LeY, Same}
use Rattle.plan_spec.specs.Segment.{Segment, AnyOn}
use Rattle.plan_spec.specs.Parity.{parity}
use Rattle.plan_spec.specs.Polygon.{Inside}
use Rattle.plan_spec.specs.Frame.{Frame}
use Rattle.plan_spec.specs.Placement.{Scene, Touches}
use Rattle.plan_spec.specs.Route.{legs, StartsAt, EndsAt}
use Rattle.plan_spec.specs.Chain.{odd_end, IsClosed}

-- what may be wrong with a certificate: with a path the first four, with a chain the other five
pub data Fault : Type 0 where
  empty_path : Fault
  wrong_start : Fault
  wrong_goal : Fault
  touches : ℕ → Fault
  flat : ℕ → Fault
  loose : ℕ → Fault
  unclosed : ℕ → Fault
  start_even : Fault
  goal_odd : Fault

-- segment k is bad, and each segment before it is good
pub record IsFirst (Bad Good : Segment → Type 0) (ss : List Segment) (k : ℕ) : Type 0 where
  pub bad : IsSomeAnd (slice_get ss k) Bad
  pub earlier : (j : ℕ) → j < k → IfSome (slice_get ss j) Good

-- ---- paths
-- some rational point of the segment touches
abbrev pub SegmentTouches : Scene → Segment → Type 0
SegmentTouches scene s = AnyOn (Touches scene) s

-- the first fault of a path from s to g: it is empty; else it does not start at s; else it does not end at g; else the
-- first of its segments that touches
abbrev pub IsFirstPathFault : Scene → Vector → Vector → List Vector → Fault → Type 0
IsFirstPathFault scene s g path empty_path = path ≡ []
IsFirstPathFault scene s g path wrong_start = (¬ (path ≡ [])) × ¬ (StartsAt s path)
IsFirstPathFault scene s g path wrong_goal = StartsAt s path × ¬ (EndsAt g path)
IsFirstPathFault scene s g path (touches k) =
    StartsAt s path × EndsAt g path × IsFirst (SegmentTouches scene) (λ leg. ¬ (SegmentTouches scene leg)) (legs path) k
IsFirstPathFault scene s g path _ = ⊥

-- ---- chains, where it is given which segments are tight
-- both ends are on or beyond one and the same side of the room
abbrev pub AreBeyondOneSide : Frame → Segment → Type 0
AreBeyondOneSide room s =
    (LeX s.a room.low × LeX s.b room.low)
    ⊎ ((LeX room.high s.a × LeX room.high s.b)
    ⊎ ((LeY s.a room.low × LeY s.b room.low)
    ⊎ (LeY room.high s.a × LeY room.high s.b)))

-- both ends are in one sum, or on or beyond one side of the room: then no point between them is clear
abbrev pub IsTight : List (List Vector) → Frame → Segment → Type 0
IsTight sums room s = Any (λ vs. Inside vs s.a × Inside vs s.b) sums ⊎ AreBeyondOneSide room s

-- the ends are one point
abbrev pub IsFlat : Segment → Type 0
IsFlat s = Same s.a s.b

-- the ends differ, and the segment is not tight
abbrev pub IsLoose : (Segment → Type 0) → Segment → Type 0
IsLoose tight s = (¬ (IsFlat s)) × ¬ (tight s)

-- the ends differ, and the segment is tight
abbrev pub IsSound : (Segment → Type 0) → Segment → Type 0
IsSound tight s = (¬ (IsFlat s)) × tight s

-- an end of the segment is an end of the chain an odd number of times
abbrev pub HasOddEnd : List Segment → Segment → Type 0
HasOddEnd chain s = (odd_end chain s.a ≡ true) ⊎ (odd_end chain s.b ≡ true)

-- a closed chain of sound segments that is odd at s and even at g
pub record IsAccepted (tight : Segment → Type 0) (s g : Vector) (chain : List Segment) : Type 0 where
  pub sound : All (IsSound tight) chain
  pub closed : IsClosed chain
  pub odd : parity chain s ≡ true
  pub even : parity chain g ≡ false

-- the first fault of a chain between s and g: its first segment that is not sound is flat, or else loose; else the first with
-- an end that is an end an odd number of times; else it is even at s; else it is odd at g
abbrev pub IsFirstChainFault : (Segment → Type 0) → Vector → Vector → List Segment → Fault → Type 0
IsFirstChainFault tight s g chain (flat k) = IsFirst IsFlat (IsSound tight) chain k
IsFirstChainFault tight s g chain (loose k) = IsFirst (IsLoose tight) (IsSound tight) chain k
IsFirstChainFault tight s g chain (unclosed k) = All (IsSound tight) chain × IsFirst (HasOddEnd chain) (λ s. ¬ (HasOddEnd chain s)) chain k
IsFirstChainFault tight s g chain start_even = All (IsSound tight) chain × IsClosed chain × (parity chain s ≡ false)
IsFirstChainFault tight s g chain goal_odd = All (IsSound tight) chain × IsClosed chain × (parity chain s ≡ true) × (parity chain g ≡ true)
IsFirstChainFault tight s g chain _ = ⊥
