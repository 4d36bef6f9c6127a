-- What a verdict says of a certificate that is offered for the way from s to g.
use Rattle.std.specs.Prelude.{◌<◌, ◌^◌, ◌⊎◌, List, length, Any}
use Rattle.plan_spec.specs.Vector.{Vector}
use Rattle.plan_spec.specs.Segment.{Segment}
use Rattle.plan_spec.specs.Frame.{Frame}
use Rattle.plan_spec.specs.Room.{IsRoom}
use Rattle.plan_spec.specs.Triangulation.{corners}
use Rattle.plan_spec.specs.Placement.{Scene}
use Rattle.plan_spec.specs.Sums.{InDifference, parts}
use Rattle.plan_spec.specs.Route.{IsRoute, IsClearPolyline}
use Rattle.plan_spec.specs.Chain.{Blocks, Crosses}
use Rattle.plan_spec.specs.Reply.{AreBeyondOneSide, IsAccepted, IsFirstPathFault, IsFirstChainFault}
use Rattle.plan_cross.specs.declared.certificate.Certificate.{Certificate}
use Rattle.plan_cross.specs.declared.certificate.Certificate.TheVariants.{Path, Blocked}
use Rattle.plan_check.specs.Fault.{fault_seen}
use Rattle.plan_check.specs.declared.verdict.Verdict.{Verdict}
use Rattle.plan_check.specs.declared.verdict.Verdict.TheVariants.{Valid, Invalid}

-- a path is valid where it is a clear polyline; else it has this fault first
abbrev pub IsPathVerdict : Scene → Vector → Vector → List Vector → Verdict → Type 0
IsPathVerdict scene s g path Valid = IsClearPolyline scene s g path
IsPathVerdict scene s g path (Invalid fault) = IsFirstPathFault scene s g path (fault_seen fault)

-- a chain is valid where it is accepted; else it has this fault first
abbrev pub IsChainVerdict : (Segment → Type 0) → Vector → Vector → List Segment → Verdict → Type 0
IsChainVerdict tight s g chain Valid = IsAccepted tight s g chain
IsChainVerdict tight s g chain (Invalid fault) = IsFirstChainFault tight s g chain (fault_seen fault)

-- the chain blocks s from g, and every route between the two crosses it
pub record BlocksRoutes (scene : Scene) (s g : Vector) (chain : List Segment) : Type 0 where
  pub blocks : Blocks scene s g chain
  pub crossed : (route : List Vector) → IsRoute s g route → Crosses route chain

-- so does a valid chain
abbrev pub BlocksWhereValid : Scene → Vector → Vector → List Segment → Verdict → Type 0
BlocksWhereValid scene s g chain Valid = BlocksRoutes scene s g chain
BlocksWhereValid scene s g chain (Invalid _) = Unit {0}

-- ---- in a scene of simple polygons
-- fewer than 2 ^ 32 points or segments
abbrev pub IsShort : Certificate → Type 0
IsShort (Path points) = length points < 2 ^ 32
IsShort (Blocked segments) = length segments < 2 ^ 32

-- both ends are in the sum of one triangle of an obstacle and one of the robot, or on or beyond one side of the room
abbrev pub IsTightIn : Scene → Frame → Segment → Type 0
IsTightIn scene room s =
    Any (λ t. InDifference (corners t.piece) (corners t.robot) s.a × InDifference (corners t.piece) (corners t.robot) s.b) (parts scene)
    ⊎ AreBeyondOneSide room s

abbrev pub IsVerdict : Scene → Vector → Vector → Certificate → Verdict → Type 0
IsVerdict scene s g (Path points) verdict = IsPathVerdict scene s g points verdict
IsVerdict scene s g (Blocked segments) verdict = (room : Frame) × IsRoom scene.robot scene.frame room × IsChainVerdict (IsTightIn scene room) s g segments verdict

-- an accepted chain blocks
abbrev pub BlocksWhereAccepted : Scene → Vector → Vector → Certificate → Verdict → Type 0
BlocksWhereAccepted scene s g (Path points) verdict = Unit {0}
BlocksWhereAccepted scene s g (Blocked segments) verdict = BlocksWhereValid scene s g segments verdict
