-- How far a point is along an edge: fractions from 0 at its first end to 1 at its second.
use Rattle.std.specs.Prelude.{ℤ, pos, ◌+ℤ◌, ◌-ℤ◌, ◌*ℤ◌, ◌<ℤ◌, ◌≤ℤ◌, ◌^◌, Bool, int_le}
use Rattle.plan_grid.specs.Fraction.{Fraction}
use Rattle.plan_spec.specs.Vector.{Vector}
use Rattle.plan_spec.specs.Weights.{Weights, weighted}

-- by value, where the denominators are positive
abbrev pub AtMost : Fraction → Fraction → Type 0
AtMost f g = (f.num *ℤ g.den) ≤ℤ (g.num *ℤ f.den)

abbrev pub Less : Fraction → Fraction → Type 0
Less f g = (f.num *ℤ g.den) <ℤ (g.num *ℤ f.den)

abbrev pub at_most : Fraction → Fraction → Bool
at_most f g = int_le (f.num *ℤ g.den) (g.num *ℤ f.den)

-- from 0 to 1
pub record IsShare (f : Fraction) : Type 0 where
  pub positive : pos 0 <ℤ f.den
  pub nonneg : pos 0 ≤ℤ f.num
  pub upto : f.num ≤ℤ f.den

-- from 0 to 1, with a denominator below 2 ^ 25
pub record IsParameter (f : Fraction) : Type 0 where
  pub share : IsShare f
  pub bounded : f.den <ℤ pos (2 ^ 25)

abbrev pub zero : Fraction
zero = record { num = pos 0; den = pos 1 }

abbrev pub one : Fraction
one = record { num = pos 1; den = pos 1 }

-- how far the point with these weights is from the first end
abbrev pub fraction_at : Weights → Fraction
fraction_at z = record { num = z.t; den = z.s +ℤ z.t }

-- where a value passes 0 that is `first` away from 0 at the first end, and `second` away, on the other side, at the second
abbrev pub balance : ℤ → ℤ → Fraction
balance first second = record { num = first; den = first +ℤ second }

-- the point of the edge from a to b that is so far along it
abbrev pub along : Vector → Vector → Fraction → Vector
along a b f = weighted a b (record { s = f.den -ℤ f.num; t = f.num })
