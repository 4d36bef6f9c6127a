-- The segments that stand over a point, and whether they are odd in number: the even-odd rule.
use Rattle.std.specs.Prelude.{pos, ◌*ℤ◌, Bool, true, false, ◌&&◌, ◌||◌, not, List, [], ◌∷◌, int_lt, int_le}
use Rattle.plan_spec.specs.Vector.{Vector, turn}
use Rattle.plan_spec.specs.Segment.{Segment}

-- whether the segment from its left end a to b stands over z: half open, so that a point under a common end counts once,
-- and strictly above z
abbrev pub over_from : Vector → Vector → Vector → Bool
over_from a b z = int_le (a.x *ℤ z.w) (z.x *ℤ a.w) && (int_lt (z.x *ℤ b.w) (b.x *ℤ z.w) && int_lt (turn a b z) (pos 0))

-- the same with the ends in either order; a vertical segment stands over nothing
abbrev pub over : Segment → Vector → Bool
over s z = over_from s.a s.b z || over_from s.b s.a z

-- one of the two, and not both
abbrev pub xor : Bool → Bool → Bool
xor true b = not b
xor false b = b

-- whether an odd number of the segments stands over z
abbrev pub parity : List Segment → Vector → Bool
parity [] z = false
parity (s ∷ ss) z = xor (over s z) (parity ss z)

-- whether e is above the line from p to q, right of p and not right of q: an end under which a way from p to q passes
abbrev pub counted : Vector → Vector → Vector → Bool
counted p q e = int_lt (p.x *ℤ e.w) (e.x *ℤ p.w) && (int_le (e.x *ℤ q.w) (q.x *ℤ e.w) && int_lt (pos 0) (turn p q e))
