-- What accepted certificates show, and that they exclude each other.
use Rattle.std.specs.Prelude.{◌≡◌, List, All}
use Rattle.plan_spec.specs.Vector.{Vector, IsPoint}
use Rattle.plan_spec.specs.Segment.{Segment, HasPoints}
use Rattle.plan_spec.specs.Frame.{Frame}
use Rattle.plan_spec.specs.Placement.{Scene}
use Rattle.plan_spec.specs.Route.{IsClearPolyline}
use Rattle.plan_spec.specs.Reply.{Fault, IsTight, IsAccepted, IsFirstPathFault, IsFirstChainFault}
use Rattle.plan_check.specs.Touching.{IsToldBy}
use Rattle.plan_check.specs.Verdict.{BlocksRoutes}

-- where the sums and the room tell what touches, an accepted chain blocks s from g, every route from s to g crosses it, and no
-- clear polyline leads from s to g
abbrev pub AcceptedBlocks : Type 0
AcceptedBlocks =
    (scene : Scene) (sums : List (List Vector)) (room : Frame) → IsToldBy scene sums room
    → (s g : Vector) (chain : List Segment) → IsPoint s → IsPoint g → All HasPoints chain → IsAccepted (IsTight sums room) s g chain
    → BlocksRoutes scene s g chain × ((route : List Vector) → ¬ (IsClearPolyline scene s g route))

-- so no path and no chain are both accepted
abbrev pub NotBoth : Type 0
NotBoth =
    (scene : Scene) (sums : List (List Vector)) (room : Frame) → IsToldBy scene sums room
    → (s g : Vector) (path : List Vector) (chain : List Segment) → IsPoint s → IsPoint g → All HasPoints chain
    → ¬ (IsClearPolyline scene s g path × IsAccepted (IsTight sums room) s g chain)

-- the first fault of a path is one, and that of a chain
abbrev pub OneFirstFault : Type 0
OneFirstFault =
    ((scene : Scene) (s g : Vector) (path : List Vector) (e f : Fault) → IsFirstPathFault scene s g path e → IsFirstPathFault scene s g path f → e ≡ f)
    × ((sums : List (List Vector)) (room : Frame) (s g : Vector) (chain : List Segment) (e f : Fault) → All HasPoints chain → IsFirstChainFault (IsTight sums room) s g chain e → IsFirstChainFault (IsTight sums room) s g chain f → e ≡ f)

-- what is accepted has no fault
abbrev pub AcceptedOrFault : Type 0
AcceptedOrFault =
    ((scene : Scene) (s g : Vector) (path : List Vector) (fault : Fault) → ¬ (IsClearPolyline scene s g path × IsFirstPathFault scene s g path fault))
    × ((sums : List (List Vector)) (room : Frame) (s g : Vector) (chain : List Segment) (fault : Fault) → All HasPoints chain → ¬ (IsAccepted (IsTight sums room) s g chain × IsFirstChainFault (IsTight sums room) s g chain fault))
