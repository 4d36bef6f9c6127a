-- The box of two spots.
use Rattle.std.specs.Prelude.{ℤ, pos, ◌*ℤ◌, ◌≤ℤ◌, ◌⊎◌}
use Rattle.plan_spec.specs.Vector.{Vector}

-- z is between a and b, which may come in either order
abbrev pub IsBetween : ℤ → ℤ → ℤ → Type 0
IsBetween a b z = ((a ≤ℤ z) × (z ≤ℤ b)) ⊎ ((b ≤ℤ z) × (z ≤ℤ a))

-- z is in the box of a and b, which may come in either order
abbrev pub IsInBox : Vector → Vector → Vector → Type 0
IsInBox a b z = IsBetween (a.x *ℤ z.w) (b.x *ℤ z.w) (z.x *ℤ pos 1) × IsBetween (a.y *ℤ z.w) (b.y *ℤ z.w) (z.y *ℤ pos 1)
