-- The part of an edge in the closed room is what the room's four sides leave of the whole edge, one after another.
use Rattle.std.proofs.Common.{◌≡◌, ◌↔◌, ℤ, pos, ◌+ℤ◌, ◌-ℤ◌, ◌*ℤ◌, ◌<ℤ◌, [], ◌∷◌, arith}
use Rattle.plan_exact.specs.Expr.{var, con, ◌⊕◌, ◌⊖◌, ◌⊗◌}
use Rattle.plan_exact.proofs.Laws.{linear, zero_mul, one_mul}
use Rattle.plan_exact.proofs.Ring.{ring}
use Rattle.plan_spec.specs.Boundary.{InRoom}
use Rattle.plan_spec.specs.Weights.{Weights, IsWeights, weighted}
use Rattle.plan_grid.specs.declared.frame.Frame.{Frame}
use Rattle.plan_grid.specs.declared.spot.Spot.{Spot}
use Rattle.plan_grid.specs.Frame.{frame_seen}
use Rattle.plan_grid.specs.Spot.{spot_seen}
use Rattle.plan_convex.specs.declared.part.Part.{Part}
use Rattle.plan_convex.specs.Parameter.{IsParameter, zero, one, fraction_at}
use Rattle.plan_convex.specs.Part.{InClosed, whole, value_at, IsWhereNotNegative}
use Rattle.plan_convex.proofs.Fractions.{zero_share, one_share}

-- from a line at m on, and up to one
from_is : (a b m : ℤ) (z : Weights) → value_at (a -ℤ m) (b -ℤ m) z ≡ (z.s *ℤ a +ℤ z.t *ℤ b) *ℤ pos 1 -ℤ m *ℤ (z.s *ℤ pos 1 +ℤ z.t *ℤ pos 1)
from_is a b m z = ring (a ∷ b ∷ m ∷ z.s ∷ z.t ∷ []) (var 3 ⊗ (var 0 ⊖ var 2) ⊕ var 4 ⊗ (var 1 ⊖ var 2)) ((var 3 ⊗ var 0 ⊕ var 4 ⊗ var 1) ⊗ con (pos 1) ⊖ var 2 ⊗ (var 3 ⊗ con (pos 1) ⊕ var 4 ⊗ con (pos 1))) tt

upto_is : (a b m : ℤ) (z : Weights) → value_at (m -ℤ a) (m -ℤ b) z ≡ m *ℤ (z.s *ℤ pos 1 +ℤ z.t *ℤ pos 1) -ℤ (z.s *ℤ a +ℤ z.t *ℤ b) *ℤ pos 1
upto_is a b m z = ring (a ∷ b ∷ m ∷ z.s ∷ z.t ∷ []) (var 3 ⊗ (var 2 ⊖ var 0) ⊕ var 4 ⊗ (var 2 ⊖ var 1)) (var 2 ⊗ (var 3 ⊗ con (pos 1) ⊕ var 4 ⊗ con (pos 1)) ⊖ (var 3 ⊗ var 0 ⊕ var 4 ⊗ var 1) ⊗ con (pos 1)) tt

whole_edge : (z : Weights) → IsWeights z → InClosed whole (fraction_at z)
whole_edge z hz = let s = hz.first in let t = hz.second in (omega (arith, linear, zero_mul (z.s +ℤ z.t)), omega (arith, linear, one_mul (z.s +ℤ z.t)))

pub room_part : (room : Frame) (a b : Spot) (p q r u : Part) → room.low.x <ℤ room.high.x → room.low.y <ℤ room.high.y
    → IsWhereNotNegative whole (a.x -ℤ room.low.x) (b.x -ℤ room.low.x) p → IsWhereNotNegative p (room.high.x -ℤ a.x) (room.high.x -ℤ b.x) q
    → IsWhereNotNegative q (a.y -ℤ room.low.y) (b.y -ℤ room.low.y) r → IsWhereNotNegative r (room.high.y -ℤ a.y) (room.high.y -ℤ b.y) u
    → (z : Weights) → IsWeights z → InRoom (frame_seen room) (weighted (spot_seen a) (spot_seen b) z) ↔ InClosed u (fraction_at z)
room_part room a b p q r u wide tall hp hq hr hu z hz = (into, out)
  where
    into : InRoom (frame_seen room) (weighted (spot_seen a) (spot_seen b) z) → InClosed u (fraction_at z)
    into i =
        let left = i.left in
        let right = i.right in
        let below = i.below in
        let above = i.above in
        (hu z hz).0 ((hr z hz).0 ((hq z hz).0 ((hp z hz).0 (whole_edge z hz, omega (arith, linear, from_is a.x b.x room.low.x z, left)), omega (arith, linear, upto_is a.x b.x room.high.x z, right)), omega (arith, linear, from_is a.y b.y room.low.y z, below)), omega (arith, linear, upto_is a.y b.y room.high.y z, above))

    out : InClosed u (fraction_at z) → InRoom (frame_seen room) (weighted (spot_seen a) (spot_seen b) z)
    out m =
        let mu = (hu z hz).1 m in
        let mr = (hr z hz).1 mu.0 in
        let mq = (hq z hz).1 mr.0 in
        let mp = (hp z hz).1 mq.0 in
        record {
          wide = omega (arith, linear, wide);
          tall = omega (arith, linear, tall);
          left = omega (arith, linear, from_is a.x b.x room.low.x z, mp.1);
          right = omega (arith, linear, upto_is a.x b.x room.high.x z, mq.1);
          below = omega (arith, linear, from_is a.y b.y room.low.y z, mr.1);
          above = omega (arith, linear, upto_is a.y b.y room.high.y z, mu.1);
        }

pub whole_in_range : IsParameter zero × IsParameter one
whole_in_range = (record { share = zero_share; bounded = omega (arith, linear) }, record { share = one_share; bounded = omega (arith, linear) })
