-- Event lines as fractions.
use Rattle.std.specs.Prelude.{◌≡◌, ◌⊎◌, ◌*ℤ◌, ◌<◌, ◌^◌, List, All, Any, AllPairs, unsigned_abs}
use Rattle.plan_spec.specs.Vector.{Vector}
use Rattle.plan_spec.specs.Pieces.{Piece}
use Rattle.plan_grid.specs.Fraction.{Fraction, IsRatio}
use Rattle.plan_convex.specs.Parameter.{Less}

-- l is the x of the point
abbrev pub IsXOf : Vector → Fraction → Type 0
IsXOf p l = l.num *ℤ p.w ≡ p.x *ℤ l.den

-- a fraction in lowest terms with a denominator below 2 ^ 25
pub record IsLine (l : Fraction) : Type 0 where
  pub ratio : IsRatio l
  pub bounded : unsigned_abs l.den < 2 ^ 25

-- l is the x of an end of the piece
abbrev pub IsXOfEnd : Fraction → Piece → Type 0
IsXOfEnd l p = IsXOf p.part.a l ⊎ IsXOf p.part.b l

-- exactly the x of the ends of pieces, rising
pub record AreEventLines (pieces : List Piece) (ls : List Fraction) : Type 0 where
  pub lines : All IsLine ls
  pub rising : AllPairs Less ls
  pub each : All (λ l. Any (IsXOfEnd l) pieces) ls
  pub all : All (λ p. Any (IsXOf p.part.a) ls × Any (IsXOf p.part.b) ls) pieces
