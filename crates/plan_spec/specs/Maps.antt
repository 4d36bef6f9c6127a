-- The map of a scene: slabs and regions of the pieces that its sums and its room leave; and the answer that is given by it.
use Rattle.std.specs.Prelude.{◌≡◌, ℕ, ◌<◌, ◌≤◌, pos, List, All, unsigned_abs}
use Rattle.std.specs.Int.{◌∣◌}
use Rattle.plan_spec.specs.Vector.{Vector}
use Rattle.plan_spec.specs.Frame.{Frame}
use Rattle.plan_spec.specs.Placement.{Scene}
use Rattle.plan_spec.specs.Room.{IsRoom}
use Rattle.plan_spec.specs.Sums.{AreSums}
use Rattle.plan_spec.specs.Pieces.{Piece, IsBoundaryOf}
use Rattle.plan_spec.specs.Slabs.{Slabs, AreSlabs, size}
use Rattle.plan_spec.specs.Regions.{Lot, AreRegions}
use Rattle.plan_spec.specs.Answers.{Answer, IsCanonical}

-- a line by its point on the x-axis, in lowest terms: no number above 1 divides both
pub record IsLowestLine (l : Vector) : Type 0 where
  pub on_axis : l.y ≡ pos 0
  pub lowest : (d : ℕ) → d ∣ unsigned_abs l.x → d ∣ unsigned_abs l.w → d ≡ 1

-- slabs and regions of a scene; the lines are in lowest terms, since the point of a cell is at the mediant of two of them
pub record IsMapOf (scene : Scene) (σ : Slabs) (found : List Lot) : Type 0 where
  pub sums : List (List Vector)
  pub are_sums : AreSums scene sums
  pub room : Frame
  pub is_room : IsRoom scene.robot scene.frame room
  pub pieces : List Piece
  pub is_boundary : IsBoundaryOf sums room pieces
  pub lowest : All IsLowestLine σ.lines
  pub slabs : AreSlabs sums room pieces σ
  pub regions : AreRegions sums room σ found

-- ---- the size of a scene: how many spans and marks there are
pub record IsMapped (scene : Scene) : Type 0 where
  pub slabs : Slabs
  pub regions : List Lot
  pub is_map : IsMapOf scene slabs regions
  pub few : size slabs ≤ 131072

abbrev pub IsTooLarge : Scene → Type 0
IsTooLarge scene = (σ : Slabs) (found : List Lot) → IsMapOf scene σ found → 131072 < size σ

-- ---- the answer that is given to the query from s to g
pub record IsGiven (scene : Scene) (s g : Vector) (answer : Answer) : Type 0 where
  pub slabs : Slabs
  pub regions : List Lot
  pub is_map : IsMapOf scene slabs regions
  pub canonical : IsCanonical scene slabs regions s g answer
