-- The answer to a query from s to g: when it is right, and which of the right ones is given.
use Rattle.std.specs.Prelude.{ℕ, List}
use Rattle.std.specs.List.{AllZip}
use Rattle.plan_spec.specs.Vector.{Vector, Same}
use Rattle.plan_spec.specs.Segment.{Segment}
use Rattle.plan_spec.specs.Placement.{Scene, IsClear, IsTouched}
use Rattle.plan_spec.specs.Route.{IsRoute, IsClearPolyline}
use Rattle.plan_spec.specs.Chain.{Blocks, Crosses}
use Rattle.plan_spec.specs.Slabs.{Slabs}
use Rattle.plan_spec.specs.Regions.{Lot, IsIn}
use Rattle.plan_spec.specs.Neighbours.{AreNeighbours}
use Rattle.plan_spec.specs.Walks.{IsFirstWalk, AreJoined, IsComponent}
use Rattle.plan_spec.specs.Paths.{path_along}
use Rattle.plan_spec.specs.Rings.{ring}

-- the number of what the start or the goal touches, or a path, or a chain
pub data Answer : Type 0 where
  start_touches : ℕ → Answer
  goal_touches : ℕ → Answer
  by_path : List Vector → Answer
  by_chain : List Segment → Answer

-- ---- right, whichever path or chain it is
pub record IsRightPath (scene : Scene) (s g : Vector) (path : List Vector) : Type 0 where
  pub start : IsClear scene s
  pub goal : IsClear scene g
  pub clear : IsClearPolyline scene s g path
  pub none_blocks : (chain : List Segment) → ¬ (Blocks scene s g chain)

pub record IsRightChain (scene : Scene) (s g : Vector) (chain : List Segment) : Type 0 where
  pub start : IsClear scene s
  pub goal : IsClear scene g
  pub blocks : Blocks scene s g chain
  pub all_cross : (route : List Vector) → IsRoute s g route → Crosses route chain
  pub none_clear : (route : List Vector) → ¬ (IsClearPolyline scene s g route)

abbrev pub IsRight : Scene → Vector → Vector → Answer → Type 0
IsRight scene s g (start_touches who) = IsTouched scene s who
IsRight scene s g (goal_touches who) = IsClear scene s × IsTouched scene g who
IsRight scene s g (by_path path) = IsRightPath scene s g path
IsRight scene s g (by_chain chain) = IsRightChain scene s g chain

-- ---- the one that is given, by slabs and regions of the scene; by position, whatever the triples
-- along the first of the shortest walks from the start's region to the goal's
pub record IsCanonicalPath (σ : Slabs) (found : List Lot) (s g : Vector) (path : List Vector) : Type 0 where
  pub from : ℕ
  pub to : ℕ
  pub starts : IsIn σ found s from
  pub ends : IsIn σ found g to
  pub walk : List ℕ
  pub is_first : IsFirstWalk (AreNeighbours σ found) from to walk
  pub is_path : AllZip Same path (path_along σ found s g walk)

-- where no walk leads to the goal's region: the ring of the component of the start's
pub record IsCanonicalChain (σ : Slabs) (found : List Lot) (s g : Vector) (chain : List Segment) : Type 0 where
  pub from : ℕ
  pub to : ℕ
  pub starts : IsIn σ found s from
  pub ends : IsIn σ found g to
  pub apart : ¬ (AreJoined (AreNeighbours σ found) from to)
  pub component : List ℕ
  pub is_component : IsComponent (AreNeighbours σ found) from component
  pub is_ring : AllZip (λ s t. Same s.a t.a × Same s.b t.b) chain (ring σ found component)

abbrev pub IsCanonical : Scene → Slabs → List Lot → Vector → Vector → Answer → Type 0
IsCanonical scene σ found s g (start_touches who) = IsTouched scene s who
IsCanonical scene σ found s g (goal_touches who) = IsClear scene s × IsTouched scene g who
IsCanonical scene σ found s g (by_path path) = IsClear scene s × IsClear scene g × IsCanonicalPath σ found s g path
IsCanonical scene σ found s g (by_chain chain) = IsClear scene s × IsClear scene g × IsCanonicalChain σ found s g chain
