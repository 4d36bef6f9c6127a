-- Heights of edges at the x of a point, and of marks.
use Rattle.std.specs.Prelude.{◌⊎◌, ℕ, pos, ◌*◌, ◌*ℤ◌, ◌≤ℤ◌, ◌<ℤ◌, ◌<◌, ◌≤◌, ◌^◌, unsigned_abs}
use Rattle.std.specs.Int.{◌∣◌}
use Rattle.plan_exact.specs.Vectors.{Vector}
use Rattle.plan_grid.specs.Fraction.{Fraction, IsRatio}
use Rattle.plan_grid.specs.Spot.{IsWithin}
use Rattle.plan_grid.specs.declared.bounds.TheConstants.{MOST_COORDINATE}
use Rattle.plan_slab.specs.declared.strand.Strand.{Strand}

-- a height that need not be in lowest terms: a denominator of 1 at least, and both numbers below 2 ^ 63 in absolute value
pub record IsLevel (f : Fraction) : Type 0 where
  pub num_bounded : unsigned_abs f.num < 2 ^ 63
  pub positive : pos 1 ≤ℤ f.den
  pub den_bounded : unsigned_abs f.den < 2 ^ 63

-- in lowest terms, with a denominator of at most 2 ^ 37
pub record IsHeight (f : Fraction) : Type 0 where
  pub ratio : IsRatio f
  pub bounded : unsigned_abs f.den ≤ 2 ^ 37

-- a height on the line l: its denominator divides that of the line times a factor, which is the run of an edge, or small
pub record IsHeightOn (l f : Fraction) : Type 0 where
  pub height : IsHeight f
  pub factor : ℕ
  pub positive : 1 ≤ factor
  pub divides : unsigned_abs f.den ∣ factor * unsigned_abs l.den
  pub small : (factor ≤ 4092) ⊎ (factor * unsigned_abs l.den < 2 ^ 25)

-- the strand is from left to right, with the x of z in its range
pub record IsOver (s : Strand) (z : Vector) : Type 0 where
  pub a_bounded : IsWithin MOST_COORDINATE s.a
  pub b_bounded : IsWithin MOST_COORDINATE s.b
  pub rising : s.a.x <ℤ s.b.x
  pub from : (s.a.x *ℤ z.w) ≤ℤ z.x
  pub to : z.x ≤ℤ (s.b.x *ℤ z.w)
