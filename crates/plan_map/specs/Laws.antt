-- The laws of walks and paths.
use Rattle.std.specs.Prelude.{◌≡◌, ◌<◌, ℕ, List, length}
use Rattle.plan_spec.specs.Vector.{Vector, IsPoint}
use Rattle.plan_spec.specs.Frame.{Frame}
use Rattle.plan_spec.specs.Placement.{Scene}
use Rattle.plan_spec.specs.Route.{IsClearPolyline}
use Rattle.plan_spec.specs.Slabs.{Slabs}
use Rattle.plan_spec.specs.Regions.{Lot, Holds, region_at}
use Rattle.plan_spec.specs.Neighbours.{AreNeighbours}
use Rattle.plan_spec.specs.Walks.{IsWalk, IsFirstWalk}
use Rattle.plan_spec.specs.Paths.{path_along}
use Rattle.plan_slab.specs.Decomposition.{IsDecomposition, IsFloorOf}

-- the path along a walk from the region of s to that of g is clear
abbrev pub PathsAreClear : Type 0
PathsAreClear =
    (scene : Scene) (sums : List (List Vector)) (room : Frame) (σ : Slabs) (found : List Lot) → IsFloorOf scene sums room → IsDecomposition sums room σ found
    → (m n : ℕ) (s g : Vector) (walk : List ℕ) → m < length found → IsPoint s → IsPoint g → Holds σ (region_at found m) s → Holds σ (region_at found n) g → IsWalk (AreNeighbours σ found) m n walk → IsClearPolyline scene s g (path_along σ found s g walk)

-- at most one walk is the first of the shortest
abbrev pub OneFirstWalk : Type 0
OneFirstWalk = (σ : Slabs) (found : List Lot) (m n : ℕ) (walk other : List ℕ) → IsFirstWalk (AreNeighbours σ found) m n walk → IsFirstWalk (AreNeighbours σ found) m n other → walk ≡ other
