-- The law of the pieces of one edge.
use Rattle.std.specs.Prelude.{List, Any}
use Rattle.plan_spec.specs.Vector.{Vector, IsPoint, Same}
use Rattle.plan_spec.specs.Segment.{Segment, HasPoints, On}
use Rattle.plan_spec.specs.Frame.{Frame}
use Rattle.plan_spec.specs.Boundary.{IsUncovered}
use Rattle.plan_spec.specs.Pieces.{ArePieces}

-- a segment of the edge e that is uncovered throughout lies in one of the pieces of e, since it has both ends there
abbrev pub PiecesAreMaximal : Type 0
PiecesAreMaximal =
    (sums : List (List Vector)) (room : Frame) (e : Segment) (ps : List Segment) (s : Segment)
    → HasPoints e → ¬ (Same e.a e.b) → ArePieces sums room e ps → HasPoints s → On e s.a → On e s.b
    → ((z : Vector) → IsPoint z → On s z → IsUncovered sums room z) → Any (λ p. On p s.a × On p s.b) ps
