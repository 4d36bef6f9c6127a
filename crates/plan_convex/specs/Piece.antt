-- What a `Piece` can hold, and sums as lists of points of the plane.
use Rattle.std.specs.Prelude.{pos, ◌<ℤ◌, ◌^◌, List, map}
use Rattle.plan_spec.specs.Pieces.{Piece}
use Rattle.plan_spec.specs.Vector.{Vector, Before}
use Rattle.plan_grid.specs.declared.spot.Spot.{Spot}
use Rattle.plan_grid.specs.Spot.{spots_seen}

-- from the lesser end, with weights below 2 ^ 25
pub record IsPieceInRange (p : Piece) : Type 0 where
  pub onward : ¬ (Before p.part.b p.part.a)
  pub from_bounded : p.part.a.w <ℤ pos (2 ^ 25)
  pub to_bounded : p.part.b.w <ℤ pos (2 ^ 25)

-- the vertices of each sum
abbrev pub sums_seen : List (List Spot) → List (List Vector)
sums_seen sums = map spots_seen sums
