-- Of the two ends one is before the other, and pieces do not depend on which is the first.
use Rattle.std.proofs.Common.{◌⊎◌, inl, inr, ⊎_elim, ◌*ℤ◌, sym}
use Rattle.plan_exact.specs.Sign.{Order, is_less, is_equal, is_greater}
use Rattle.plan_exact.specs.Vectors.{Vector}
use Rattle.plan_exact.proofs.Signs.{order_of}
use Rattle.plan_spec.specs.Segment.{segment}
use Rattle.plan_spec.specs.Vector.{Same, Before}
use Rattle.plan_plane.proofs.Segment.Reversed.{on_reversed}
use Rattle.plan_bound.proofs.Kept.{pieces_reversed}
use Rattle.plan_bound.proofs.Maximal.{maximal}
use Rattle.plan_bound.proofs.laws.pieces_are_maximal.Goals as goal

one_before : (p q : Vector) → ¬ (Same p q) → Before p q ⊎ Before q p
one_before p q apart = by (order_of (p.x *ℤ q.w) (q.x *ℤ p.w)) (order_of (p.y *ℤ q.w) (q.y *ℤ p.w))
  where
    by : Order (p.x *ℤ q.w) (q.x *ℤ p.w) → Order (p.y *ℤ q.w) (q.y *ℤ p.w) → Before p q ⊎ Before q p
    by (is_less h) o = inl (inl h)
    by (is_greater h) o = inr (inl h)
    by (is_equal e) (is_less h) = inl (inr (e, h))
    by (is_equal e) (is_greater h) = inr (inr (sym e, h))
    by (is_equal e) (is_equal f) = absurd (apart (e, f))

pub returns : goal.returns
returns c = λ sums room e ps s he apart pieces hs oa ob free. ⊎_elim
    (λ o. maximal sums room e ps s he o pieces hs oa ob free)
    (λ o. maximal sums room (segment e.b e.a) ps s (he.1, he.0) o (pieces_reversed sums room e.a e.b ps pieces) hs (on_reversed e.a e.b s.a oa) (on_reversed e.a e.b s.b ob) free)
    (one_before e.a e.b apart)
