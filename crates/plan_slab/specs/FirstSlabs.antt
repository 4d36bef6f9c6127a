-- The slabs that a sweep from left to right has found so far.
use Rattle.std.specs.Prelude.{ℕ, suc, ◌-◌, ◌<◌, ◌≤◌, List, length}
use Rattle.plan_spec.specs.Vector.{Vector}
use Rattle.plan_spec.specs.Frame.{Frame}
use Rattle.plan_spec.specs.Pieces.{Piece}
use Rattle.plan_spec.specs.Slabs.{AreLines, AreSpans, AreMarks, Slabs, line_at, spans_of, marks_of}

-- all lines, the spans of the first slabs and the marks of the first lines
pub record AreFirst (sums : List (List Vector)) (room : Frame) (pieces : List Piece) (σ : Slabs) : Type 0 where
  pub lines : AreLines pieces σ.lines
  pub slab_count : length σ.spans ≤ length σ.lines - 1
  pub spans : (k : ℕ) → k < length σ.spans → AreSpans sums room pieces (line_at σ k) (line_at σ (suc k)) (spans_of σ k)
  pub line_count : length σ.marks ≤ length σ.lines
  pub marks : (k : ℕ) → k < length σ.marks → AreMarks pieces (line_at σ k) (marks_of σ k)
