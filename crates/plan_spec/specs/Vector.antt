-- Points of the plane in homogeneous whole-number coordinates.
use Rattle.std.specs.Prelude.{◌≡◌, ℤ, pos, ◌-ℤ◌, ◌*ℤ◌, ◌≤ℤ◌, ◌<ℤ◌, ◌⊎◌, Bool, ◌&&◌}
use Rattle.std.specs.Ordering.{int_eq}
use Rattle.plan_exact.specs.Vectors.{det}
pub use Rattle.plan_exact.specs.Vectors.{Vector}

-- a rational point, at the position (x / w, y / w)
abbrev pub IsPoint : Vector → Type 0
IsPoint p = pos 0 <ℤ p.w

-- the point with whole-number coordinates x and y
abbrev pub spot : ℤ → ℤ → Vector
spot x y = record { x = x; y = y; w = pos 1 }

-- p is left of q, or level with it
abbrev pub LeX : Vector → Vector → Type 0
LeX p q = (p.x *ℤ q.w) ≤ℤ (q.x *ℤ p.w)

-- p is left of q
abbrev pub LtX : Vector → Vector → Type 0
LtX p q = (p.x *ℤ q.w) <ℤ (q.x *ℤ p.w)

-- p is below q, or level with it
abbrev pub LeY : Vector → Vector → Type 0
LeY p q = (p.y *ℤ q.w) ≤ℤ (q.y *ℤ p.w)

-- p is below q
abbrev pub LtY : Vector → Vector → Type 0
LtY p q = (p.y *ℤ q.w) <ℤ (q.y *ℤ p.w)

-- one x, whatever the triples
abbrev pub SameX : Vector → Vector → Type 0
SameX p q = p.x *ℤ q.w ≡ q.x *ℤ p.w

-- one y, whatever the triples
abbrev pub SameY : Vector → Vector → Type 0
SameY p q = p.y *ℤ q.w ≡ q.y *ℤ p.w

-- one position, whatever the triples
abbrev pub Same : Vector → Vector → Type 0
Same p q = SameX p q × SameY p q

-- whether two triples are one position
abbrev pub same : Vector → Vector → Bool
same p q = int_eq (p.x *ℤ q.w) (q.x *ℤ p.w) && int_eq (p.y *ℤ q.w) (q.y *ℤ p.w)

-- p comes before q: by x, then by y
abbrev pub Before : Vector → Vector → Type 0
Before p q = LtX p q ⊎ (SameX p q × LtY p q)

-- twice the signed area of a, b, c, times their three weights: positive where c is left of the line from a to b, 0 where
-- the three are in line
abbrev pub turn : Vector → Vector → Vector → ℤ
turn a b c = det a b c

-- z, moved back by p
abbrev pub minus : Vector → Vector → Vector
minus z p = record { x = z.x *ℤ p.w -ℤ p.x *ℤ z.w; y = z.y *ℤ p.w -ℤ p.y *ℤ z.w; w = z.w *ℤ p.w }
