-- A path from s to g whose segments all miss what touches is a clear polyline, since each point of the route is on one of the segments.
use Rattle.std.proofs.Common.{◌≡◌, inl, inr, ℕ, zero, suc, ◌+◌, ◌-◌, ◌<◌, List, [], ◌∷◌, length, get_or, All, Any, min, max, refl, ap, subst, sym, arith}
use Rattle.plan_spec.specs.Vector.{Vector, IsPoint, Same}
use Rattle.plan_spec.specs.Segment.{Segment, On, segment}
use Rattle.plan_spec.specs.Placement.{Scene, Touches}
use Rattle.plan_spec.specs.Route.{segments, segments_from, OnRoute, StartsAt, EndsAt, IsClearPolyline, legs}
use Rattle.plan_spec.specs.Reply.{SegmentTouches}
use Rattle.plan_plane.proofs.Lists.{any_there}
use Rattle.plan_plane.proofs.Segment.Between.{between_same, swapped, on}

-- ---- a point at an end of a segment is on it
on_first : (a b z : Vector) → IsPoint a → IsPoint z → Same a z → On (segment a b) z
on_first a b z ha hz same = on (between_same a b z ha hz same)

on_second : (a b z : Vector) → IsPoint b → IsPoint z → Same b z → On (segment a b) z
on_second a b z hb hz same = on (swapped (between_same b a z hb hz same))

-- ---- so each point of the list is on a segment of the path
on_listed : (z : Vector) (a : Vector) (ps : List Vector) → All IsPoint (a ∷ ps) → IsPoint z → Any (λ p. Same p z) (a ∷ ps) → Any (λ s. On s z) (legs (a ∷ ps))
on_listed z a [] points hz (zero, p, within, e, same) = (0, segment a a, omega arith, refl, on_first a a z (points 0 a (omega arith)) hz (subst (λ v. Same v z) (sym e) same))
on_listed z a [] points hz (suc k, p, within, e, same) = absurd (omega arith)
on_listed z a (b ∷ ps) points hz (zero, p, within, e, same) = (0, segment a b, omega arith, refl, on_first a b z (points 0 a (omega arith)) hz (subst (λ v. Same v z) (sym e) same))
on_listed z a (b ∷ []) points hz (suc zero, p, within, e, same) = (0, segment a b, omega arith, refl, on_second a b z (points 1 a (omega arith)) hz (subst (λ v. Same v z) (sym e) same))
on_listed z a (b ∷ []) points hz (suc (suc k), p, within, e, same) = absurd (omega arith)
on_listed z a (b ∷ (c ∷ ps)) points hz (suc k, p, within, e, same) = any_there (λ s. On s z) (segment a b) (segments (b ∷ (c ∷ ps))) (on_listed z b (c ∷ ps) (λ i d lt. points (suc i) d (omega arith)) hz (k, p, omega arith, e, same))

on_leg : (z : Vector) (path : List Vector) → All IsPoint path → IsPoint z → OnRoute path z → Any (λ s. On s z) (legs path)
on_leg z [] points hz (inl (k, p, within, e, same)) = absurd (omega arith)
on_leg z (a ∷ ps) points hz (inl at) = on_listed z a ps points hz at
on_leg z [] points hz (inr (k, s, within, e, o)) = absurd (omega arith)
on_leg z (a ∷ []) points hz (inr (k, s, within, e, o)) = absurd (omega arith)
on_leg z (a ∷ (b ∷ ps)) points hz (inr at) = at

pub clear_polyline : (scene : Scene) (s g : Vector) (path : List Vector) → All IsPoint path → StartsAt s path → EndsAt g path → All (λ leg. ¬ (SegmentTouches scene leg)) (legs path) → IsClearPolyline scene s g path
clear_polyline scene s g path points starts ends misses = record {
  is_route = record { points = points; starts = starts; ends = ends };
  is_clear = λ z hz o touches. by z hz touches (on_leg z path points hz o);
}
  where
    by : (z : Vector) → IsPoint z → Touches scene z → Any (λ leg. On leg z) (legs path) → ⊥
    by z hz touches (k, leg, within, e, o) = subst (λ s. ¬ (SegmentTouches scene s)) e (misses k leg within) (z, hz, o, touches)

-- ---- the segments by index: one fewer than points, or one
pub length_legs : (path : List Vector) → 0 < length path → length (legs path) ≡ max (length path - 1) 1
length_legs [] h = absurd (omega arith)
length_legs (a ∷ []) h = refl
length_legs (a ∷ (b ∷ ps)) h = omega (arith, length_segments a (b ∷ ps))
  where
    length_segments : (a : Vector) (ps : List Vector) → length (segments_from a ps) ≡ length ps
    length_segments a [] = refl
    length_segments a (b ∷ ps) = ap suc (length_segments b ps)

pub leg_at : (path : List Vector) (k : ℕ) (d : Segment) (e : Vector) → k < max (length path - 1) 1 → 0 < length path → get_or (legs path) k d ≡ segment (get_or path k e) (get_or path (min (k + 1) (length path - 1)) e)
leg_at [] k d e h there = absurd (omega arith)
leg_at (a ∷ []) zero d e h there = refl
leg_at (a ∷ []) (suc k) d e h there = absurd (omega arith)
leg_at (a ∷ (b ∷ ps)) k d e h there =
    let next : min (k + 1) (length (a ∷ (b ∷ ps)) - 1) ≡ suc k = omega arith in
    rw next (segment_at a (b ∷ ps) k d e (omega arith))
  where
    segment_at : (a : Vector) (ps : List Vector) (k : ℕ) (d : Segment) (e : Vector) → k < length ps → get_or (segments_from a ps) k d ≡ segment (get_or (a ∷ ps) k e) (get_or ps k e)
    segment_at a [] k d e h = absurd (omega arith)
    segment_at a (b ∷ ps) zero d e h = refl
    segment_at a (b ∷ ps) (suc k) d e h = segment_at b ps k d e (omega arith)
