-- The sides of a free cell are exposed: in the closed room, and strictly inside no sum. Else points of the cell would be beyond the room or in the sum.
use Rattle.std.proofs.Common.{inl, inr, ℤ, pos, ◌≤ℤ◌, ◌<ℤ◌, List, get_or}
use Rattle.plan_exact.specs.Vectors.{cross}
use Rattle.plan_exact.proofs.Signs.{le_of_lt, le_or_lt, lt_of_not_le}
use Rattle.plan_spec.specs.Vector.{Vector, IsPoint, LeX, LtX, LtY, turn}
use Rattle.plan_spec.specs.Segment.{Segment}
use Rattle.plan_spec.specs.Polygon.{edges}
use Rattle.plan_spec.specs.Frame.{Frame}
use Rattle.plan_spec.specs.Boundary.{IsLeft, StrictlyInside, IsUncovered, IsClearOf}
use Rattle.plan_spec.specs.Regions.{InCell}
use Rattle.plan_plane.proofs.Near.{Near, near_pos, near_both, near_weaker, near_all, near_point, near_at}
use Rattle.plan_plane.proofs.Rising.ByCoordinate.{order_x, order_y}
use Rattle.plan_ring.proofs.NearOrder.{near_neg, near_right, near_left, near_over, near_under}

-- on the closed boundary of the cell, or in it
pub record OnRim (l r : Vector) (s t : Segment) (z : Vector) : Type 0 where
  pub after : LeX l z
  pub before : LeX z r
  pub above : pos 0 ≤ℤ turn s.a s.b z
  pub below : turn t.a t.b z ≤ℤ pos 0

-- towards a point of the cell one is in the cell
into_cell : (l r : Vector) (s t : Segment) (z c : Vector) → OnRim l r s t z → InCell l r s t c → Near z c (InCell l r s t)
into_cell l r s t z c rim inside =
    near_weaker _ (InCell l r s t) (λ p f. record { after = f.0.0; before = f.0.1; above = f.1.0; below = f.1.1 })
    (near_both _ _ (near_both (LtX l) (λ p. LtX p r) (near_right l z c (inr (rim.after, inside.after))) (near_left r z c (inr (rim.before, inside.before))))
    (near_both (λ p. pos 0 <ℤ turn s.a s.b p) (λ p. turn t.a t.b p <ℤ pos 0) (near_pos z c (cross s.a s.b) (inr (rim.above, inside.above))) (near_neg z c (cross t.a t.b) (inr (rim.below, inside.below)))))

module _ (sums : List (List Vector)) (room : Frame) (l r : Vector) (s t : Segment) (clear : (p : Vector) → IsPoint p → InCell l r s t p → IsClearOf sums room p) (c : Vector) (hc : IsPoint c) (inside : InCell l r s t c) where
  -- so near the rim nothing touches throughout
  not_near : (P : Vector → Type 0) (z : Vector) → IsPoint z → OnRim l r s t z → ((p : Vector) → P p → ¬ (IsClearOf sums room p)) → ¬ (Near z c P)
  not_near P z hz rim touches near =
      let f = near_at (near_both _ _ (near_both _ _ (into_cell l r s t z c rim inside) (near_point hz (le_of_lt hc))) near) in
      touches _ f.1 (clear _ f.0.1 f.0.0)

  pub exposed : (z : Vector) → IsPoint room.low → IsPoint room.high → IsPoint z → OnRim l r s t z → IsUncovered sums room z
  exposed z hl hh hz rim = record {
    in_room = record {
      wide = order_x.less room.low c room.high hl hc hh (lt_of_not_le _ _ (λ h. off.in_room (inl h))) (lt_of_not_le _ _ (λ h. off.in_room (inr (inl h))));
      tall = order_y.less room.low c room.high hl hc hh (lt_of_not_le _ _ (λ h. off.in_room (inr (inr (inl h))))) (lt_of_not_le _ _ (λ h. off.in_room (inr (inr (inr h)))));
      left = unless _ _ (λ h. not_near (λ p. LtX p room.low) z hz rim (λ p k o. o.in_room (inl (le_of_lt k))) (near_left room.low z c (inl h)));
      right = unless _ _ (λ h. not_near (LtX room.high) z hz rim (λ p k o. o.in_room (inr (inl (le_of_lt k)))) (near_right room.high z c (inl h)));
      below = unless _ _ (λ h. not_near (λ p. LtY p room.low) z hz rim (λ p k o. o.in_room (inr (inr (inl (le_of_lt k))))) (near_under room.low z c h));
      above = unless _ _ (λ h. not_near (LtY room.high) z hz rim (λ p k o. o.in_room (inr (inr (inr (le_of_lt k))))) (near_over room.high z c h));
    };
    in_none = λ j vs within strict. not_near (StrictlyInside (get_or sums j vs)) z hz rim (λ p k o. o.in_none j vs within (λ i e below. le_of_lt (k i e below))) (near_all (λ s p. IsLeft p s) (edges (get_or sums j vs)) (λ i e below. let s = get_or (edges (get_or sums j vs)) i e in near_pos z c (cross s.a s.b) (inl (strict i e below))));
  }
    where
      off : IsClearOf sums room c
      off = clear c hc inside

      unless : (a b : ℤ) → ¬ (b <ℤ a) → a ≤ℤ b
      unless a b not = elim (le_or_lt a b) [
        | inl h ↦ h
        | inr h ↦ absurd (not h)
      ]
