-- A segment is strictly inside a frame where both ends are: where a point of it is as far as a side, one end is.
use Rattle.std.proofs.Common.{◌⊎◌, ◌↔◌, inl, inr, ⊎_elim, ◌*ℤ◌, arith}
use Rattle.plan_exact.proofs.Laws.{linear}
use Rattle.plan_exact.proofs.Signs.{le_or_lt}
use Rattle.plan_spec.specs.Vector.{Vector, IsPoint, LeX, LtX}
use Rattle.plan_spec.specs.Segment.{segment, AnyOn}
use Rattle.plan_spec.specs.Frame.{Frame, OnOrBeyond}
use Rattle.plan_plane.proofs.Segment.Between.{Between, between, on, between_first, between_second, LtX_before, LtX_after, flip, flipped as between_flipped}

-- where a point of the segment is as far as r, one end is
end_before : {p q z : Vector} → IsPoint z → Between p q z → (r : Vector) → LeX z r → LeX p r ⊎ LeX q r
end_before {p} {q} {z} hz b r h = by (le_or_lt (p.x *ℤ r.w) (r.x *ℤ p.w)) (le_or_lt (q.x *ℤ r.w) (r.x *ℤ q.w))
  where
    by : LeX p r ⊎ LtX r p → LeX q r ⊎ LtX r q → LeX p r ⊎ LeX q r
    by (inl k) t = inl k
    by (inr k) (inl l) = inr l
    by (inr k) (inr l) = absurd (omega (arith, linear, LtX_after hz b r k l))

end_after : {p q z : Vector} → IsPoint z → Between p q z → (r : Vector) → LeX r z → LeX r p ⊎ LeX r q
end_after {p} {q} {z} hz b r h = by (le_or_lt (r.x *ℤ p.w) (p.x *ℤ r.w)) (le_or_lt (r.x *ℤ q.w) (q.x *ℤ r.w))
  where
    by : LeX r p ⊎ LtX p r → LeX r q ⊎ LtX q r → LeX r p ⊎ LeX r q
    by (inl k) t = inl k
    by (inr k) (inl l) = inr l
    by (inr k) (inr l) = absurd (omega (arith, linear, LtX_before hz b r k l))

pub segment_beyond : (frame : Frame) (p q : Vector) → IsPoint p → IsPoint q
    → AnyOn (OnOrBeyond frame) (segment p q) ↔ (OnOrBeyond frame p ⊎ OnOrBeyond frame q)
segment_beyond frame p q hp hq = (into, out)
  where
    out : OnOrBeyond frame p ⊎ OnOrBeyond frame q → AnyOn (OnOrBeyond frame) (segment p q)
    out (inl h) = (p, hp, on (between_first p q hp), h)
    out (inr h) = (q, hq, on (between_second p q hq), h)

    into : AnyOn (OnOrBeyond frame) (segment p q) → OnOrBeyond frame p ⊎ OnOrBeyond frame q
    into (z, hz, oz, beyond) = by beyond
      where
        b : Between p q z
        b = between p q z hp hq hz oz

        by : OnOrBeyond frame z → OnOrBeyond frame p ⊎ OnOrBeyond frame q
        by (inl h) = ⊎_elim (λ k. inl (inl k)) (λ k. inr (inl k)) (end_before hz b frame.low h)
        by (inr (inl h)) = ⊎_elim (λ k. inl (inr (inl k))) (λ k. inr (inr (inl k))) (end_after hz b frame.high h)
        by (inr (inr (inl h))) = ⊎_elim (λ k. inl (inr (inr (inl k)))) (λ k. inr (inr (inr (inl k)))) (end_before hz (between_flipped b) (flip frame.low) h)
        by (inr (inr (inr h))) = ⊎_elim (λ k. inl (inr (inr (inr k)))) (λ k. inr (inr (inr (inr k)))) (end_after hz (between_flipped b) (flip frame.high) h)
