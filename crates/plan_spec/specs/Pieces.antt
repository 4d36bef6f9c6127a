-- The pieces of the boundary: what is uncovered of each edge, in parts that are closed and apart. So they are its maximal uncovered parts.
use Rattle.std.specs.Prelude.{◌≡◌, ℕ, suc, ◌++◌, ◌↔◌, List, [], map, All, Any, AllPairs, ◌∷◌}
use Rattle.std.specs.List.{AllZip}
use Rattle.plan_spec.specs.Vector.{Vector, IsPoint, Before}
use Rattle.plan_spec.specs.Segment.{Segment, HasPoints, On}
use Rattle.plan_spec.specs.Frame.{Frame}
use Rattle.plan_spec.specs.Boundary.{IsUncovered, boundary}

-- a part of the edge, from its lesser end; it may be one point
pub record IsPartOf (e p : Segment) : Type 0 where
  pub points : HasPoints p
  pub from : On e p.a
  pub to : On e p.b
  pub onward : ¬ (Before p.b p.a)

-- the pieces of an edge: parts of it, one after another, that hold exactly its uncovered points
pub record ArePieces (sums : List (List Vector)) (room : Frame) (e : Segment) (ps : List Segment) : Type 0 where
  pub along : All (IsPartOf e) ps
  pub apart : AllPairs (λ p q. Before p.b q.a) ps
  pub exact : (z : Vector) → IsPoint z → On e z → IsUncovered sums room z ↔ Any (λ p. On p z) ps

-- a piece, and the number of its edge
pub record Piece : Type 0 where
  pub edge : ℕ
  pub part : Segment

abbrev pub piece : ℕ → Segment → Piece
piece k p = record { edge = k; part = p }

-- the pieces of edges that are numbered from k on
abbrev pub numbered : ℕ → List (List Segment) → List Piece
numbered k [] = []
numbered k (ps ∷ rest) = map (piece k) ps ++ numbered (suc k) rest

-- all pieces of the boundary, by the number of the edge, then along it
pub record IsBoundaryOf (sums : List (List Vector)) (room : Frame) (pieces : List Piece) : Type 0 where
  pub parts : List (List Segment)
  pub each : AllZip (ArePieces sums room) (boundary sums room) parts
  pub in_order : pieces ≡ numbered 0 parts
