-- What touches, in the terms of a room and of sums.
use Rattle.std.specs.Prelude.{◌↔◌, ◌⊎◌, List, Any}
use Rattle.plan_spec.specs.Vector.{Vector, IsPoint}
use Rattle.plan_spec.specs.Segment.{Segment, AnyOn, HasPoints}
use Rattle.plan_spec.specs.Polygon.{Inside}
use Rattle.plan_spec.specs.Frame.{Frame, OnOrBeyond}
use Rattle.plan_spec.specs.Placement.{Scene, Touches}
use Rattle.plan_spec.specs.Chain.{IsProper}
use Rattle.plan_spec.specs.Reply.{IsTight}

-- p is not strictly inside the room, or a sum has it
abbrev pub IsHeldBy : List (List Vector) → Frame → Vector → Type 0
IsHeldBy sums room p = OnOrBeyond room p ⊎ Any (λ vs. Inside vs p) sums

-- that tells what the robot touches
abbrev pub IsToldBy : Scene → List (List Vector) → Frame → Type 0
IsToldBy scene sums room = (p : Vector) → IsPoint p → Touches scene p ↔ IsHeldBy sums room p

-- an end is not strictly inside the room, or a sum has a point of the segment
abbrev pub LegTouches : List (List Vector) → Frame → Segment → Type 0
LegTouches sums room s =
    HasPoints s
    × ((OnOrBeyond room s.a ⊎ OnOrBeyond room s.b) ⊎ Any (λ vs. AnyOn (Inside vs) s) sums)

-- neither
abbrev pub LegRunsClear : List (List Vector) → Frame → Segment → Type 0
LegRunsClear sums room s = HasPoints s × ¬ (LegTouches sums room s)

-- two different points as ends, and tight
abbrev pub IsProperAndTight : List (List Vector) → Frame → Segment → Type 0
IsProperAndTight sums room s = IsProper s × IsTight sums room s
