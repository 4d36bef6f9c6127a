-- Whichever end of a segment comes first, and whichever axis, it has the same points.
use Rattle.std.proofs.Common.{◌⊎◌, inl, inr, neg_ℤ, ap, ◌∙◌, arith}
use Rattle.plan_spec.specs.Vector.{Vector}
use Rattle.plan_exact.proofs.Laws.{linear}
use Rattle.plan_exact.proofs.Vectors.{det_swapped}
use Rattle.plan_spec.specs.Segment.{Segment, On, segment, Common}
use Rattle.plan_plane.proofs.Segment.Between.{flip, turn_flipped}

swap : {P Q : Type 0} → P ⊎ Q → Q ⊎ P
swap (inl p) = inr p
swap (inr q) = inl q

pub on_reversed : (a b z : Vector) → On (segment a b) z → On (segment b a) z
on_reversed a b z h = record { in_line = omega (arith, linear, h.in_line, det_swapped a b z); within_x = swap h.within_x; within_y = swap h.within_y }

-- either way, since twice flipped is the same again
pub on_flipped : (a b z : Vector) → On (segment a b) z → On (segment (flip a) (flip b)) (flip z)
on_flipped a b z h = record { in_line = turn_flipped a b z ∙ ap neg_ℤ h.in_line; within_x = h.within_y; within_y = h.within_x }

-- ---- common points
pub common_flipped : {s t : Segment} → Common s t → Common t s
common_flipped m = (m.0, m.1, m.3, m.2)

pub common_first : (a b : Vector) {t : Segment} → Common (segment b a) t → Common (segment a b) t
common_first a b m = (m.0, m.1, on_reversed b a m.0 m.2, m.3)

pub common_last : {s : Segment} (p q : Vector) → Common s (segment q p) → Common s (segment p q)
common_last p q m = (m.0, m.1, m.2, on_reversed q p m.0 m.3)
