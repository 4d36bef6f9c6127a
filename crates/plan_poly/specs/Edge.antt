-- Edges of polygons of spots, and what tests tell of two of them.
use Rattle.std.specs.Prelude.{pos, ◌<ℤ◌, ◌⊎◌}
use Rattle.plan_spec.specs.Vector.{Vector, Same, turn}
use Rattle.plan_spec.specs.Segment.{Segment, segment, On}
use Rattle.plan_grid.specs.Spot.{edge_seen}
use Rattle.plan_poly.specs.declared.edge.Edge.{Edge}

-- an edge as a segment of the plane
abbrev pub segment_seen : Edge → Segment
segment_seen e = edge_seen e.a e.b

-- ---- two segments, by their ends
-- left is strictly left of the line of s, and right is strictly right of it
abbrev pub AreOnSides : Segment → Vector → Vector → Type 0
AreOnSides s left right = (pos 0 <ℤ turn s.a s.b left) × (turn s.a s.b right <ℤ pos 0)

-- the ends of t are strictly on the two sides of the line of s
abbrev pub Parts : Segment → Segment → Type 0
Parts s t = AreOnSides s t.a t.b ⊎ AreOnSides s t.b t.a

abbrev pub PartEachOther : Segment → Segment → Type 0
PartEachOther s t = Parts s t × Parts t s

-- an end of t is on s
abbrev pub HasEnd : Segment → Segment → Type 0
HasEnd s t = On s t.a ⊎ On s t.b

abbrev pub HaveEndOnOther : Segment → Segment → Type 0
HaveEndOnOther s t = HasEnd s t ⊎ HasEnd t s

-- ---- two segments from m, to a and to b
-- a is on the segment from m to b, and is not m
abbrev pub Beyond : Vector → Vector → Vector → Type 0
Beyond m a b = On (segment m b) a × ¬ (Same a m)

abbrev pub FoldsBack : Vector → Vector → Vector → Type 0
FoldsBack m a b = Beyond m a b ⊎ Beyond m b a
