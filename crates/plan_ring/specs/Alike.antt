-- Alike by position: points, sums, segments and pieces that differ in nothing but the triples of their points.
use Rattle.std.specs.Prelude.{◌≡◌, pos, ◌<ℤ◌, List, All}
use Rattle.std.specs.List.{AllZip}
use Rattle.plan_spec.specs.Vector.{Vector, IsPoint, Same, turn}
use Rattle.plan_spec.specs.Segment.{Segment}
use Rattle.plan_spec.specs.Pieces.{Piece}
use Rattle.plan_spec.specs.Placement.{Scene}
use Rattle.plan_spec.specs.Sums.{Part, parts}
use Rattle.plan_spec.specs.Triangulation.{Triangle, corners}

-- place by place the same positions
abbrev pub AlikePoints : List Vector → List Vector → Type 0
AlikePoints = AllZip Same

abbrev pub AlikeSums : List (List Vector) → List (List Vector) → Type 0
AlikeSums = AllZip AlikePoints

-- ends at the same positions
abbrev pub AlikeSegment : Segment → Segment → Type 0
AlikeSegment s t = Same s.a t.a × Same s.b t.b

-- of one edge, with ends at the same positions
abbrev pub AlikePiece : Piece → Piece → Type 0
AlikePiece p q = (p.edge ≡ q.edge) × AlikeSegment p.part q.part

abbrev pub AlikePieces : List Piece → List Piece → Type 0
AlikePieces = AllZip AlikePiece

-- ---- scenes whose sums are alike
-- counterclockwise, its corners points
pub record IsTriangle (t : Triangle) : Type 0 where
  pub points : All IsPoint (corners t)
  pub left : pos 0 <ℤ turn t.a t.b t.c

pub record IsPair (p : Part) : Type 0 where
  pub piece : IsTriangle p.piece
  pub robot : IsTriangle p.robot

-- each part is a pair of triangles, as in every scene of simple polygons; of flat ones a sum is a line, which many lists of vertices tell
abbrev pub HasTriangles : Scene → Type 0
HasTriangles scene = All IsPair (parts scene)
