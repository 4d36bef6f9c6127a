-- The heights at which bars meet a line.
use Rattle.std.specs.Prelude.{◌≡◌, pos, ◌*ℤ◌, List, [], ◌∷◌, All}
use Rattle.std.specs.List.{AllZip, flat_map}
use Rattle.plan_spec.specs.Vector.{Vector, SameX, Same, turn}
use Rattle.plan_grid.specs.Fraction.{Fraction, point_at}
use Rattle.plan_slab.specs.declared.bar.Bar.{Bar}
use Rattle.plan_slab.specs.Heights.{IsOver, IsHeight}
use Rattle.plan_slab.specs.RisingValues.{IsRisingOf}
use Rattle.plan_slab.specs.Seen.{line_seen, strand_seen}

-- f is the y of the point
abbrev pub IsYOf : Vector → Fraction → Type 0
IsYOf p f = f.num *ℤ p.w ≡ p.y *ℤ f.den

-- the ends of the piece have one x
abbrev pub IsUpright : Bar → Type 0
IsUpright b = SameX b.piece.part.a b.piece.part.b

-- the line goes through the piece, where that is upright along it
pub record Meets (l : Fraction) (b : Bar) : Type 0 where
  pub over : ¬ (IsUpright b) → IsOver b.strand (line_seen l)
  pub along : IsUpright b → SameX (line_seen l) b.piece.part.a × SameX (line_seen l) b.piece.part.b

-- where the bar meets the line: both ends of an upright one, else where the line of its edge does
pub data AreHeightsOf (l : Fraction) (b : Bar) : List Fraction → Type 0 where
  both : (f g : Fraction) → IsUpright b → Same (point_at l f) b.piece.part.a → Same (point_at l g) b.piece.part.b → AreHeightsOf l b (f ∷ g ∷ [])
  one : (f : Fraction) → ¬ (IsUpright b) → turn (strand_seen b.strand).a (strand_seen b.strand).b (point_at l f) ≡ pos 0 → AreHeightsOf l b (f ∷ [])

-- the heights of all bars by rising value
pub record AreHeightsAt (l : Fraction) (bars : List Bar) (ms : List Fraction) : Type 0 where
  pub found : List (List Fraction)
  pub each : AllZip (AreHeightsOf l) bars found
  pub bounded : All (All IsHeight) found
  pub heights : All IsHeight ms
  pub rising : IsRisingOf (flat_map (λ fs. fs) found) ms
