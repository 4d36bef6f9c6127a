-- What the tests of a path tell of it as the definitions see it.
use Rattle.std.proofs.Common.{◌≡◌, ◌⊎◌, ◌↔◌, inl, inr, ℕ, suc, ◌==◌, false, ◌-◌, ◌<◌, List, [], ◌∷◌, length, get_or, All, Any, ap, arith}
use Rattle.std.proofs.lemmas.Bool.Decides.{nat_tests}
use Rattle.plan_spec.specs.Vector.{Vector, Same}
use Rattle.plan_spec.specs.Segment.{Segment, AnyOn}
use Rattle.plan_spec.specs.Polygon.{Inside}
use Rattle.plan_spec.specs.Frame.{Frame, OnOrBeyond}
use Rattle.plan_spec.specs.Placement.{Scene}
use Rattle.plan_spec.specs.Route.{IsClearPolyline, StartsAt, EndsAt, legs}
use Rattle.plan_spec.specs.Reply.{SegmentTouches, IsFirst}
use Rattle.plan_plane.proofs.Lists.{any_weaker}
use Rattle.plan_cross.proofs.First.{first_weaker}
use Rattle.plan_check.specs.Touching.{IsToldBy, LegTouches, LegRunsClear}
use Rattle.plan_check.proofs.Frames.{segment_beyond}
use Rattle.plan_check.proofs.ClearPaths.{clear_polyline}
use Rattle.plan_check.proofs.Legs.{path_points}

-- ---- the ends
pub starts_at : (s d : Vector) (path : List Vector) → 0 < length path → StartsAt s path ↔ Same (get_or path 0 d) s
starts_at s d [] some = absurd (omega arith)
starts_at s d (p ∷ ps) some = (λ h. h, λ h. h)

pub ends_at : (g d : Vector) (path : List Vector) → 0 < length path → EndsAt g path ↔ Same (get_or path (length path - 1) d) g
ends_at g d [] some = absurd (omega arith)
ends_at g d (p ∷ []) some = (λ h. h, λ h. h)
ends_at g d (p ∷ (q ∷ ps)) some =
    let last : length (p ∷ (q ∷ ps)) - 1 ≡ suc (length (q ∷ ps) - 1) = omega arith in
    rw last (ends_at g d (q ∷ ps) (omega arith))

pub is_some : (path : List Vector) → false ≡ (length path == 0) → 0 < length path
is_some path e = grind (arith, nat_tests)

pub not_empty : (path : List Vector) → 0 < length path → ¬ (path ≡ [])
not_empty path some e = omega (arith, ap length e)

-- ---- one segment
module _ (scene : Scene) (sums : List (List Vector)) (room : Frame) (told : IsToldBy scene sums room) where
  leg_touches : (s : Segment) → LegTouches sums room s → SegmentTouches scene s
  leg_touches s ((ha, hb), inl ends) = let m = (segment_beyond room s.a s.b ha hb).1 ends in (m.0, m.1, m.2, (told m.0 m.1).1 (inl m.3))
  leg_touches s (points, inr (k, vs, within, e, (z, hz, on, inside))) = (z, hz, on, (told z hz).1 (inr (k, vs, within, e, inside)))

  leg_clear : (s : Segment) → LegRunsClear sums room s → ¬ (SegmentTouches scene s)
  leg_clear s (points, clear) (z, hz, on, touches) = clear (points, by ((told z hz).0 touches))
    where
      by : OnOrBeyond room z ⊎ Any (λ vs. Inside vs z) sums → (OnOrBeyond room s.a ⊎ OnOrBeyond room s.b) ⊎ Any (λ vs. AnyOn (Inside vs) s) sums
      by (inl beyond) = inl ((segment_beyond room s.a s.b points.0 points.1).0 (z, hz, on, beyond))
      by (inr some) = inr (any_weaker (λ vs. Inside vs z) (λ vs. AnyOn (Inside vs) s) (λ vs inside. (z, hz, on, inside)) sums some)

  pub clear : (s g : Vector) (path : List Vector) → 0 < length path → StartsAt s path → EndsAt g path → All (LegRunsClear sums room) (legs path) → IsClearPolyline scene s g path
  clear s g path some starts ends h =
      clear_polyline scene s g path (path_points path some (λ k d within. (h k d within).0)) starts ends (λ k d within. leg_clear _ (h k d within))

  pub first_touching : (path : List Vector) (k : ℕ) → IsFirst (LegTouches sums room) (LegRunsClear sums room) (legs path) k → IsFirst (SegmentTouches scene) (λ leg. ¬ (SegmentTouches scene leg)) (legs path) k
  first_touching path k h = first_weaker (LegTouches sums room) (LegRunsClear sums room) (SegmentTouches scene) (λ leg. ¬ (SegmentTouches scene leg)) (legs path) k (λ i d within. leg_touches _) (λ i d within. leg_clear _) h
