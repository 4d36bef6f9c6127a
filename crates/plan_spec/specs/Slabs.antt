-- Event lines, spans and marks. The ends of pieces part the plane into slabs, open strips between upright lines; the pieces that go across a slab part it from below; and each line is parted where pieces meet it or end on it.
use Rattle.std.specs.Prelude.{◌≡◌, ◌↔◌, ◌⊎◌, ℕ, suc, ◌+◌, ◌-◌, ◌<◌, pos, ◌*ℤ◌, ◌≤ℤ◌, ◌<ℤ◌, int_lt, cond, List, [], length, get_or, sum_by, All, Any, AllPairs}
use Rattle.plan_spec.specs.Vector.{Vector, IsPoint, LeX, LtX, LtY, SameX, Same, spot, turn}
use Rattle.plan_spec.specs.Segment.{Segment, segment, On}
use Rattle.plan_spec.specs.Frame.{Frame}
use Rattle.plan_spec.specs.Boundary.{boundary}
use Rattle.plan_spec.specs.Pieces.{Piece, piece}

-- what reading beyond the end of a list gives
abbrev pub nowhere : Vector
nowhere = spot (pos 0) (pos 0)

abbrev pub nothing : Segment
nothing = segment nowhere nowhere

-- the piece of that number
abbrev pub piece_at : List Piece → ℕ → Piece
piece_at pieces n = get_or pieces n (piece 0 nothing)

-- the edge on which a piece lies
abbrev pub edge_of : List (List Vector) → Frame → Piece → Segment
edge_of sums room p = get_or (boundary sums room) p.edge nothing

-- ---- event lines
-- exactly the x of the ends of pieces, from left to right; a line is any point of it
pub record AreLines (pieces : List Piece) (ls : List Vector) : Type 0 where
  pub points : All IsPoint ls
  pub rising : AllPairs LtX ls
  pub each : All (λ l. Any (λ p. SameX l p.part.a ⊎ SameX l p.part.b) pieces) ls
  pub all : All (λ p. Any (SameX p.part.a) ls × Any (SameX p.part.b) ls) pieces

-- ---- spans
-- z is in the slab, strictly between the lines l and r
abbrev pub InSlab : Vector → Vector → Vector → Type 0
InSlab l r z = LtX l z × LtX z r

-- the piece goes across the slab from l to r
abbrev pub Reaches : Vector → Vector → Piece → Type 0
Reaches l r p = LeX p.part.a l × LeX r p.part.b

-- the piece is on the line through the ends of s
abbrev pub LiesOn : Segment → Piece → Type 0
LiesOn s p = (turn s.a s.b p.part.a ≡ pos 0) × (turn s.a s.b p.part.b ≡ pos 0)

-- throughout the slab, what is on t or above it is above s
abbrev pub Below : Vector → Vector → Segment → Segment → Type 0
Below l r s t = (z : Vector) → IsPoint z → InSlab l r z → pos 0 ≤ℤ turn t.a t.b z → pos 0 <ℤ turn s.a s.b z

-- the segment from left to right
abbrev pub rightward : Segment → Segment
rightward e = cond (int_lt (e.b.x *ℤ e.a.w) (e.a.x *ℤ e.b.w)) (segment e.b e.a) e

-- s is the edge, from left to right, of the first piece that goes across and lies on it
pub record IsSpan (sums : List (List Vector)) (room : Frame) (pieces : List Piece) (l r : Vector) (s : Segment) : Type 0 where
  pub number : ℕ
  pub within : number < length pieces
  pub reaches : Reaches l r (piece_at pieces number)
  pub is : s ≡ rightward (edge_of sums room (piece_at pieces number))
  pub first : (j : ℕ) → j < number → Reaches l r (piece_at pieces j) → ¬ (LiesOn s (piece_at pieces j))

-- the spans of the slab from l to r, from below: pieces that lie on each other give one
pub record AreSpans (sums : List (List Vector)) (room : Frame) (pieces : List Piece) (l r : Vector) (ss : List Segment) : Type 0 where
  pub order : AllPairs (Below l r) ss
  pub each : All (IsSpan sums room pieces l r) ss
  pub all : All (λ p. Reaches l r p → Any (λ s. LiesOn s p) ss) pieces

-- ---- marks
-- z is an end of the piece, or on it where it is not upright
abbrev pub IsMark : Vector → Piece → Type 0
IsMark z p = Same z p.part.a ⊎ (Same z p.part.b ⊎ (LtX p.part.a p.part.b × On p.part z))

-- the marks of the line l, from below
pub record AreMarks (pieces : List Piece) (l : Vector) (ms : List Vector) : Type 0 where
  pub points : All IsPoint ms
  pub on_line : All (SameX l) ms
  pub rising : AllPairs LtY ms
  pub exact : (z : Vector) → IsPoint z → SameX l z → Any (IsMark z) pieces ↔ Any (Same z) ms

-- ---- all of them
-- slab k lies between line k and line k + 1
pub record Slabs : Type 0 where
  pub lines : List Vector
  pub spans : List (List Segment)  -- of each slab
  pub marks : List (List Vector)  -- of each line

abbrev pub line_at : Slabs → ℕ → Vector
line_at σ k = get_or σ.lines k nowhere

abbrev pub spans_of : Slabs → ℕ → List Segment
spans_of σ k = get_or σ.spans k []

abbrev pub span_at : Slabs → ℕ → ℕ → Segment
span_at σ k i = get_or (spans_of σ k) i nothing

abbrev pub marks_of : Slabs → ℕ → List Vector
marks_of σ k = get_or σ.marks k []

abbrev pub mark_at : Slabs → ℕ → ℕ → Vector
mark_at σ k j = get_or (marks_of σ k) j nowhere

-- the slabs of these pieces; without lines there is none
pub record AreSlabs (sums : List (List Vector)) (room : Frame) (pieces : List Piece) (σ : Slabs) : Type 0 where
  pub lines : AreLines pieces σ.lines
  pub slab_count : length σ.spans ≡ length σ.lines - 1
  pub spans : (k : ℕ) → k < length σ.spans → AreSpans sums room pieces (line_at σ k) (line_at σ (suc k)) (spans_of σ k)
  pub line_count : length σ.marks ≡ length σ.lines
  pub marks : (k : ℕ) → k < length σ.marks → AreMarks pieces (line_at σ k) (marks_of σ k)

-- how many spans and marks there are
abbrev pub size : Slabs → ℕ
size σ = sum_by length σ.spans + sum_by length σ.marks
