-- The laws of rings.
use Rattle.std.specs.Prelude.{◌≡◌, ◌⊎◌, ℕ, List, All}
use Rattle.std.specs.List.{AllZip}
use Rattle.plan_spec.specs.Vector.{Vector, IsPoint}
use Rattle.plan_spec.specs.Segment.{Segment, HasPoints}
use Rattle.plan_spec.specs.Answers.{Answer, start_touches, goal_touches, by_path, by_chain, IsRightChain, IsCanonicalChain, IsCanonical}
use Rattle.plan_spec.specs.Chain.{Blocks}
use Rattle.plan_spec.specs.Frame.{Frame}
use Rattle.plan_spec.specs.Maps.{IsMapOf, IsMapped, IsTooLarge, IsGiven}
use Rattle.plan_spec.specs.Neighbours.{AreNeighbours}
use Rattle.plan_spec.specs.Pieces.{Piece, IsBoundaryOf}
use Rattle.plan_spec.specs.Placement.{Scene, IsClear}
use Rattle.plan_spec.specs.Regions.{Lot, AreRegions, IsIn}
use Rattle.plan_spec.specs.Reply.{IsTight, IsAccepted}
use Rattle.plan_spec.specs.Rings.{ring}
use Rattle.plan_spec.specs.Room.{IsRoom}
use Rattle.plan_spec.specs.Route.{IsClearPolyline}
use Rattle.plan_spec.specs.Slabs.{Slabs, size}
use Rattle.plan_spec.specs.Sums.{AreSums}
use Rattle.plan_spec.specs.Walks.{AreJoined, IsComponent}
use Rattle.plan_grid.specs.Bounds.{IsLowest}
use Rattle.plan_scene.specs.Scene as scenes
use Rattle.plan_slab.specs.Decomposition.{IsFloorOf}
use Rattle.plan_slab.specs.Laws.{AreSlabsOf}
use Rattle.plan_ring.specs.Alike.{AlikePoints, AlikeSegment, HasTriangles}

-- the ring of the component of the region of s is accepted wherever g is in a region of another component
abbrev pub RingIsAccepted : Type 0
RingIsAccepted =
    (sums : List (List Vector)) (room : Frame) (pieces : List Piece) (σ : Slabs) (found : List Lot) → AreSlabsOf sums room pieces σ → AreRegions sums room σ found
    → (s g : Vector) (m n : ℕ) (ns : List ℕ) → IsPoint s → IsPoint g → IsIn σ found s m → IsIn σ found g n → IsComponent (AreNeighbours σ found) m ns → ¬ (AreJoined (AreNeighbours σ found) m n)
    → All HasPoints (ring σ found ns) × IsAccepted (IsTight sums room) s g (ring σ found ns)

-- so each chain that is given, by position such a ring, is accepted and right
abbrev pub CanonicalChainIsRight : Type 0
CanonicalChainIsRight =
    (scene : Scene) (sums : List (List Vector)) (room : Frame) (pieces : List Piece) (σ : Slabs) (found : List Lot) → IsFloorOf scene sums room → AreSlabsOf sums room pieces σ → AreRegions sums room σ found
    → (s g : Vector) (chain : List Segment) → IsPoint s → IsPoint g → All HasPoints chain → IsCanonicalChain σ found s g chain → IsAccepted (IsTight sums room) s g chain × IsRightChain scene s g chain

-- a clear polyline leads from s to g
abbrev pub HasPath : Scene → Vector → Vector → Type 0
HasPath scene s g = (route : List Vector) × IsClearPolyline scene s g route

-- a chain blocks s from g
abbrev pub HasChain : Scene → Vector → Vector → Type 0
HasChain scene s g = (chain : List Segment) × Blocks scene s g chain

-- of clear points there is exactly one of the two
abbrev pub OneKindOfAnswer : Type 0
OneKindOfAnswer =
    (scene : Scene) (sums : List (List Vector)) (room : Frame) (pieces : List Piece) → IsFloorOf scene sums room → IsBoundaryOf sums room pieces
    → (s g : Vector) → IsPoint s → IsPoint g → IsClear scene s → IsClear scene g → (HasPath scene s g ⊎ HasChain scene s g) × (HasPath scene s g → ¬ (HasChain scene s g))

-- two maps of one scene have one size
abbrev pub OneSizeOfScene : Type 0
OneSizeOfScene = (scene : Scene) (σ τ : Slabs) (found other : List Lot) → HasTriangles scene → IsMapOf scene σ found → IsMapOf scene τ other → size σ ≡ size τ

-- so of a scene with a map the two verdicts on the limit exclude each other, and one holds
abbrev pub MappedOrTooLarge : Type 0
MappedOrTooLarge = (scene : Scene) (σ : Slabs) (found : List Lot) → HasTriangles scene → IsMapOf scene σ found → (IsMapped scene ⊎ IsTooLarge scene) × (IsMapped scene → ¬ (IsTooLarge scene))

-- the same number, or the same positions
abbrev pub AlikeAnswer : Answer → Answer → Type 0
AlikeAnswer (start_touches m) (start_touches n) = m ≡ n
AlikeAnswer (goal_touches m) (goal_touches n) = m ≡ n
AlikeAnswer (by_path p) (by_path q) = AlikePoints p q
AlikeAnswer (by_chain p) (by_chain q) = AllZip AlikeSegment p q
AlikeAnswer _ _ = ⊥

-- so the answer that is given is one by position, whatever the map
abbrev pub OneGiven : Type 0
OneGiven = (scene : Scene) (s g : Vector) (a b : Answer) → HasTriangles scene → IsPoint s → IsPoint g → IsGiven scene s g a → IsGiven scene s g b → AlikeAnswer a b

-- and what is given by one map is given by each
abbrev pub GivenByEachMap : Type 0
GivenByEachMap = (scene : Scene) (σ : Slabs) (found : List Lot) → HasTriangles scene → IsMapOf scene σ found → (s g : Vector) (answer : Answer) → IsPoint s → IsPoint g → IsGiven scene s g answer → IsCanonical scene σ found s g answer

-- a point whose three numbers have no common divisor above 1
abbrev pub IsLowestPoint : Vector → Type 0
IsLowestPoint p = IsPoint p × IsLowest p

abbrev pub IsInLowestTerms : Answer → Type 0
IsInLowestTerms (start_touches n) = Unit {0}
IsInLowestTerms (goal_touches n) = Unit {0}
IsInLowestTerms (by_path path) = All IsLowestPoint path
IsInLowestTerms (by_chain chain) = All (λ s. IsLowestPoint s.a × IsLowestPoint s.b) chain

-- and in lowest terms it is one
abbrev pub OneGivenInLowestTerms : Type 0
OneGivenInLowestTerms =
    (scene : Scene) (s g : Vector) (a b : Answer) → HasTriangles scene → IsPoint s → IsPoint g → IsGiven scene s g a → IsGiven scene s g b → IsInLowestTerms a → IsInLowestTerms b → a ≡ b

-- sums, a room and the pieces that they leave make a map of the scene
abbrev pub MapsExist : Type 0
MapsExist =
    (scene : Scene) (sums : List (List Vector)) (room : Frame) (pieces : List Piece) → HasTriangles scene → AreSums scene sums → IsRoom scene.robot scene.frame room → IsBoundaryOf sums room pieces → (σ : Slabs) × (found : List Lot) × IsMapOf scene σ found

-- the parts of each scene of simple polygons are pairs of triangles
abbrev pub ScenesHaveTriangles : Type 0
ScenesHaveTriangles = (s : scenes.Scene) → scenes.IsScene s → HasTriangles (scenes.scene_seen s)
