-- Heights of edges at one x, and what a sort of the pieces by them gives; and the heights at which pieces meet a line.
use Rattle.std.specs.Prelude.{◌≡◌, ℕ, ◌<◌, ◌≤◌, ℤ, ◌-ℤ◌, ◌*ℤ◌, ◌<ℤ◌, ◌&&◌, int_lt, int_le, List, [], ◌∷◌, length, All, AllPairs, Any, if◌then◌else◌}
use Rattle.std.specs.Ordering.{int_eq}
use Rattle.plan_spec.specs.Vector.{Vector}
use Rattle.plan_spec.specs.Segment.{Segment}
use Rattle.plan_spec.specs.Frame.{Frame}
use Rattle.plan_spec.specs.Pieces.{Piece}
use Rattle.plan_spec.specs.Slabs.{piece_at, edge_of, Reaches, rightward}
use Rattle.plan_spec.specs.Regions.{mediant, foot}

-- ---- heights
-- how far the second end is right of the first, times both weights
abbrev pub run : Segment → ℤ
run s = s.b.x *ℤ s.a.w -ℤ s.a.x *ℤ s.b.w

-- at the x of m the edge s, from left to right, is lower than t: the heights are (foot s m).y over run s, up to the weight of m
abbrev pub Lower : Vector → Segment → Segment → Type 0
Lower m s t = ((foot s m).y *ℤ run t) <ℤ ((foot t m).y *ℤ run s)

-- they are level
abbrev pub Level : Vector → Segment → Segment → Type 0
Level m s t = (foot s m).y *ℤ run t ≡ (foot t m).y *ℤ run s

-- ---- spans
-- the edge of a piece, from left to right
abbrev pub strand : List (List Vector) → Frame → Piece → Segment
strand sums room p = rightward (edge_of sums room p)

-- numbers of pieces that go across the slab from l to r, by strictly rising heights at the mediant; each is the least of its height, and none is missed
pub record AreLevels (sums : List (List Vector)) (room : Frame) (pieces : List Piece) (l r : Vector) (ns : List ℕ) : Type 0 where
  pub each : All (λ n. (n < length pieces) × Reaches l r (piece_at pieces n)) ns
  pub rising : AllPairs (λ i j. Lower (mediant l r) (strand sums room (piece_at pieces i)) (strand sums room (piece_at pieces j))) ns
  pub all : (j : ℕ) → j < length pieces → Reaches l r (piece_at pieces j) → Any (λ n. (n ≤ j) × Level (mediant l r) (strand sums room (piece_at pieces n)) (strand sums room (piece_at pieces j))) ns

-- ---- marks
-- where the piece marks the line l: it meets it, or both ends of an upright piece on it
abbrev pub heights : Vector → Piece → List Vector
heights l p =
    let a = p.part.a in
    let b = p.part.b in
    if int_lt (a.x *ℤ b.w) (b.x *ℤ a.w) then (if int_le (a.x *ℤ l.w) (l.x *ℤ a.w) && int_le (l.x *ℤ b.w) (b.x *ℤ l.w) then foot p.part l ∷ [] else []) else (if int_eq (a.x *ℤ l.w) (l.x *ℤ a.w) then a ∷ b ∷ [] else [])
