-- What a sweep from left to right knows at a line.
use Rattle.std.specs.Prelude.{◌≡◌, ◌⊎◌, ℕ, ◌<◌, ◌≤◌, List, length, get_or, All, Any, Contains}
use Rattle.plan_spec.specs.Vector.{Vector, LeX}
use Rattle.plan_spec.specs.Frame.{Frame}
use Rattle.plan_spec.specs.Pieces.{Piece}
use Rattle.plan_spec.specs.Slabs.{piece_at, Reaches, Slabs, AreSlabs, size}
use Rattle.plan_grid.specs.Fraction.{Fraction}
use Rattle.plan_slab.specs.declared.bar.Bar.{Bar}
use Rattle.plan_slab.specs.Bars.{IsBar}
use Rattle.plan_slab.specs.Seen.{line_seen}

-- the piece begins on the line or on its left
abbrev pub BeginsBy : Fraction → Bar → Type 0
BeginsBy l b = LeX b.piece.part.a (line_seen l)

-- it ends on the line or on its right
abbrev pub LastsTo : Fraction → Bar → Type 0
LastsTo l b = LeX (line_seen l) b.piece.part.b

-- of the first n bars exactly those that begin by the line l and last to the line r
pub record AreActive (bars : List Bar) (n : ℕ) (l r : Fraction) (active : List Bar) : Type 0 where
  pub each : All (λ b. Contains bars b × BeginsBy l b × LastsTo r b) active
  pub all : (k : ℕ) (d : Bar) → k < n → k < length bars → BeginsBy l (get_or bars k d) → LastsTo r (get_or bars k d) → Contains active (get_or bars k d)

-- the bars with numbers from m to n, which begin by the line, were added
pub record AreEntered (bars : List Bar) (m n : ℕ) (l : Fraction) (before after : List Bar) : Type 0 where
  pub each : All (λ b. Contains before b ⊎ (Contains bars b × BeginsBy l b)) after
  pub old : (b : Bar) → Contains before b → Contains after b
  pub new : (k : ℕ) (d : Bar) → m ≤ k → k < n → Contains after (get_or bars k d)

-- those that last to the line were kept
pub record AreKept (r : Fraction) (before after : List Bar) : Type 0 where
  pub each : All (λ b. Contains before b × LastsTo r b) after
  pub all : (b : Bar) → Contains before b → LastsTo r b → Contains after b

-- each slabs of the pieces are too many
abbrev pub AreTooMany : List (List Vector) → Frame → List Piece → Type 0
AreTooMany sums room pieces = (σ : Slabs) → AreSlabs sums room pieces σ → 131072 < size σ

-- exactly the pieces that begin by the line l and last to the line r, on their edges
pub record AreAcross (sums : List (List Vector)) (room : Frame) (pieces : List Piece) (l r : Fraction) (bars : List Bar) : Type 0 where
  pub each : All (λ b. IsBar sums room pieces b × BeginsBy l b × LastsTo r b) bars
  pub every : (n : ℕ) → n < length pieces → Reaches (line_seen l) (line_seen r) (piece_at pieces n) → Any (λ b. b.number ≡ n) bars
