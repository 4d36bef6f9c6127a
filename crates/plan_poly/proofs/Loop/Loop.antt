-- Loops: polygons of which no two vertices are one and no two edges have a common point but common ends. No edge has a number here.
use Rattle.std.proofs.Common.{inl, inr}
use Rattle.std.specs.Prelude.{◌⊎◌, List, All}
use Rattle.plan_spec.specs.Polygon.{edges}
use Rattle.plan_spec.specs.Segment.{Segment, On, segment}
use Rattle.plan_spec.specs.Vector.{Vector, Same, IsPoint}
use Rattle.plan_plane.proofs.Pairs.{Pairs}
use Rattle.plan_plane.proofs.Segment.Reversed.{on_reversed}
use Rattle.plan_plane.proofs.Segment.Same.{Same-swapped}

-- z is one of the segment's ends
abbrev pub IsEnd : Segment → Vector → Type 0
IsEnd s z = Same z s.a ⊎ Same z s.b

-- the two have no common point but common ends
abbrev pub MeetRight : Segment → Segment → Type 0
MeetRight s t = (z : Vector) → IsPoint z → On s z → On t z → IsEnd s z × IsEnd t z

-- a closed polygon without self-contact; straight vertices are allowed
pub record Loop (vs : List Vector) : Type 0 where
  pub points : All IsPoint vs
  pub distinct : Pairs (λ a b. ¬ (Same a b)) vs
  pub apart : Pairs MeetRight (edges vs)

abbrev pub Differ : Vector → Vector → Type 0
Differ a b = ¬ (Same a b)

pub differ_swapped : (a b : Vector) → Differ a b → Differ b a
differ_swapped a b n e = n (Same-swapped b a e)

pub meet_swapped : (s t : Segment) → MeetRight s t → MeetRight t s
meet_swapped s t m z hz a b = let k = m z hz b a in (k.1, k.0)

pub end_reversed : (a b z : Vector) → IsEnd (segment a b) z → IsEnd (segment b a) z
end_reversed a b z (inl e) = inr e
end_reversed a b z (inr e) = inl e

pub meet_reversed : (a b : Vector) {t : Segment} → MeetRight (segment a b) t → MeetRight (segment b a) t
meet_reversed a b m z hz o k = let j = m z hz (on_reversed b a z o) k in (end_reversed a b z j.0, j.1)
