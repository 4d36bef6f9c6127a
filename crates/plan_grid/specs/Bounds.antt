-- The rational points that a `Point` can hold.
use Rattle.std.specs.Prelude.{◌≡◌, ℕ, ℤ, pos, ◌<ℤ◌, ◌≤ℤ◌, ◌<◌, ◌≤◌, ◌*◌, ◌^◌, unsigned_abs, ◌⊎◌}
use Rattle.std.specs.Int.{◌∣◌}
use Rattle.plan_spec.specs.Vector.{Vector}
use Rattle.plan_grid.specs.declared.bounds.TheConstants.{MOST_COORDINATE, MOST_WEIGHT}

-- no number above 1 divides all three
abbrev pub IsLowest : Vector → Type 0
IsLowest p = (d : ℕ) → d ∣ unsigned_abs p.x → d ∣ unsigned_abs p.y → d ∣ unsigned_abs p.w → d ≡ 1

-- what `Point::new` refuses: a weight below 1 or above 2 ^ 51, or a coordinate of more than 2046 in absolute value
abbrev pub IsBeyond : ℤ → ℤ → ℤ → Type 0
IsBeyond x y w =
    (w <ℤ pos 1)
    ⊎ ((pos MOST_WEIGHT <ℤ w)
    ⊎ ((MOST_COORDINATE * unsigned_abs w < unsigned_abs x)
    ⊎ (MOST_COORDINATE * unsigned_abs w < unsigned_abs y)))

-- a weight from 1 to `most`, and coordinates of at most 2046 in absolute value
pub record IsBounded (most : ℕ) (p : Vector) : Type 0 where
  pub weight : pos 1 ≤ℤ p.w
  pub weight_bounded : unsigned_abs p.w ≤ most
  pub x_bounded : unsigned_abs p.x ≤ MOST_COORDINATE * unsigned_abs p.w
  pub y_bounded : unsigned_abs p.y ≤ MOST_COORDINATE * unsigned_abs p.w

-- a weight from 1 to 2 ^ 51, coordinates of at most 2046 in absolute value, in lowest terms
pub record IsInRange (p : Vector) : Type 0 where
  pub weight : pos 1 ≤ℤ p.w
  pub weight_bounded : unsigned_abs p.w ≤ MOST_WEIGHT
  pub x_bounded : unsigned_abs p.x ≤ MOST_COORDINATE * unsigned_abs p.w
  pub y_bounded : unsigned_abs p.y ≤ MOST_COORDINATE * unsigned_abs p.w
  pub lowest : IsLowest p

-- g is the greatest number that divides all three, where the weight is positive
pub record IsDivisor (p : Vector) (g : ℕ) : Type 0 where
  pub positive : 0 < g
  pub bounded : g < 2 ^ 63
  pub x : g ∣ unsigned_abs p.x
  pub y : g ∣ unsigned_abs p.y
  pub w : g ∣ unsigned_abs p.w
  pub greatest : (d : ℕ) → d ∣ unsigned_abs p.x → d ∣ unsigned_abs p.y → d ∣ unsigned_abs p.w → d ∣ g
