-- Parts of an edge between two parameters, and what a value that is known at the two ends of the edge leaves of them.
use Rattle.std.specs.Prelude.{ℤ, pos, ◌+ℤ◌, ◌*ℤ◌, ◌<ℤ◌, ◌≤ℤ◌, ◌↔◌, Option, Some, None, if◌then◌else◌}
use Rattle.plan_spec.specs.Weights.{Weights, IsWeights, IsInner}
use Rattle.plan_grid.specs.Fraction.{Fraction}
use Rattle.plan_convex.specs.declared.part.Part.{Part}
use Rattle.plan_convex.specs.Parameter.{AtMost, Less, at_most, fraction_at, zero, one}

abbrev pub InOpen : Part → Fraction → Type 0
InOpen p f = Less p.from f × Less f p.to

abbrev pub InClosed : Part → Fraction → Type 0
InClosed p f = AtMost p.from f × AtMost f p.to

-- from the later of the two starts, and to the earlier of the two ends
abbrev pub from_later : Part → Fraction → Part
from_later p f = if at_most f p.from then p else record { from = f; to = p.to }

abbrev pub to_earlier : Part → Fraction → Part
to_earlier p f = if at_most p.to f then p else record { from = p.from; to = f }

-- the whole edge, and a part with nothing in it
abbrev pub whole : Part
whole = record { from = zero; to = one }

abbrev pub nowhere : Part
nowhere = record { from = one; to = zero }

-- the value, at the point with these weights, of what is a at the first end and b at the second, and linear between
abbrev pub value_at : ℤ → ℤ → Weights → ℤ
value_at a b z = z.s *ℤ a +ℤ z.t *ℤ b

-- what is left of p where the value must be positive: nothing, or a part
abbrev pub IsWherePositive : Part → ℤ → ℤ → Option Part → Type 0
IsWherePositive p a b None = (z : Weights) → IsInner z → ¬ (pos 0 <ℤ value_at a b z)
IsWherePositive p a b (Some q) =
    (z : Weights) → IsInner z → (InOpen p (fraction_at z) × (pos 0 <ℤ value_at a b z)) ↔ InOpen q (fraction_at z)

-- q is what is left of p where the value must not be negative
abbrev pub IsWhereNotNegative : Part → ℤ → ℤ → Part → Type 0
IsWhereNotNegative p a b q =
    (z : Weights) → IsWeights z → (InClosed p (fraction_at z) × (pos 0 ≤ℤ value_at a b z)) ↔ InClosed q (fraction_at z)
