-- Pieces of one edge, as the code has them.
use Rattle.std.specs.Prelude.{◌≡◌, ◌<ℤ◌, ℕ, List, map, All, slice_index_or}
use Rattle.plan_spec.specs.Vector.{Vector, IsPoint, Same}
use Rattle.plan_spec.specs.Segment.{Segment}
use Rattle.plan_spec.specs.Frame as spec
use Rattle.plan_spec.specs.Boundary.{boundary}
use Rattle.plan_spec.specs.Pieces.{ArePieces, Piece}
use Rattle.plan_grid.specs.declared.frame.Frame.{Frame}
use Rattle.plan_convex.specs.declared.part.Part.{Part}
use Rattle.plan_convex.specs.Parameter.{along}

-- with width and height
abbrev pub IsProperRoom : Frame → Type 0
IsProperRoom room = (room.low.x <ℤ room.high.x) × (room.low.y <ℤ room.high.y)

-- the piece of the edge from a to b between the two ends of the gap
pub record IsPieceOf (edge : ℕ) (a b : Vector) (gap : Part) (p : Piece) : Type 0 where
  pub number : p.edge ≡ edge
  pub from_point : IsPoint p.part.a
  pub to_point : IsPoint p.part.b
  pub from : Same p.part.a (along a b gap.from)
  pub to : Same p.part.b (along a b gap.to)

-- the pieces of the edge of that number, with that number
pub record ArePiecesOf (sums : List (List Vector)) (room : spec.Frame) (edge : ℕ) (ps : List Piece) : Type 0 where
  pub numbers : All (λ p. p.edge ≡ edge) ps
  pub pieces : (e : Segment) → ArePieces sums room (slice_index_or (boundary sums room) edge e) (map (λ p. p.part) ps)
