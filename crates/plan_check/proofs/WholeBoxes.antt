-- The least and the greatest of the rounded coordinates make the least whole-number box; where it is on or beyond a side, both points are.
use Rattle.std.proofs.Common.{◌↔◌, ◌⊎◌, inl, inr, ℤ, ◌≤ℤ◌, arith}
use Rattle.std.specs.Int.{int_min, int_max}
use Rattle.std.proofs.lemmas.Int.{ints, int_min_is, int_max_is}
use Rattle.plan_exact.proofs.Laws.{linear}
use Rattle.plan_exact.proofs.Signs.{mul_one}
use Rattle.plan_spec.specs.Vector.{Vector}
use Rattle.plan_spec.specs.Segment.{segment}
use Rattle.plan_spec.specs.Reply.{AreBeyondOneSide}
use Rattle.plan_grid.specs.declared.frame.Frame.{Frame}
use Rattle.plan_grid.specs.declared.spot.Spot.{Spot}
use Rattle.plan_grid.specs.Frame.{frame_seen}
use Rattle.plan_grid.specs.Spot.{least, greatest}
use Rattle.plan_check.specs.Boxes.{IsRoundedDown, IsRoundedUp, IsWholeBox, IsBeside, IsAboveOrBelow}

at_most_least : (a b m : ℤ) (A B : Type 0) → (m ≤ℤ a) ↔ A → (m ≤ℤ b) ↔ B → (m ≤ℤ int_min a b) ↔ (A × B)
at_most_least a b m A B f g =
    let e = int_min_is a b in
    (λ h. (f.0 (omega (arith, ints)), g.0 (omega (arith, ints))), λ (x, y). let h = f.1 x in let k = g.1 y in omega (arith, ints))

at_least_greatest : (a b m : ℤ) (A B : Type 0) → (a ≤ℤ m) ↔ A → (b ≤ℤ m) ↔ B → (int_max a b ≤ℤ m) ↔ (A × B)
at_least_greatest a b m A B f g =
    let e = int_max_is a b in
    (λ h. (f.0 (omega (arith, ints)), g.0 (omega (arith, ints))), λ (x, y). let h = f.1 x in let k = g.1 y in omega (arith, ints))

pub whole_box : (p q : Vector) (a b c d : Spot) → IsRoundedDown p a → IsRoundedDown q b → IsRoundedUp p c → IsRoundedUp q d → IsWholeBox p q (record { low = least a b; high = greatest c d })
whole_box p q a b c d ha hb hc hd = record {
  left = λ m. at_most_least a.x b.x m _ _ (ha.x m) (hb.x m);
  right = λ m. at_least_greatest c.x d.x m _ _ (hc.x m) (hd.x m);
  below = λ m. at_most_least a.y b.y m _ _ (ha.y m) (hb.y m);
  above = λ m. at_least_greatest c.y d.y m _ _ (hc.y m) (hd.y m);
}

-- ---- beyond a side of the room
pub beyond : (room reach : Frame) (p q : Vector) → IsWholeBox p q reach → (IsBeside room reach ⊎ IsAboveOrBelow room reach) ↔ AreBeyondOneSide (frame_seen room) (segment p q)
beyond room reach p q box = (into, out)
  where
    into : IsBeside room reach ⊎ IsAboveOrBelow room reach → AreBeyondOneSide (frame_seen room) (segment p q)
    into (inl (inl h)) = let k = (box.right room.low.x).0 h in inl (omega (arith, linear, k.0, mul_one p.x), omega (arith, linear, k.1, mul_one q.x))
    into (inl (inr h)) = let k = (box.left room.high.x).0 h in inr (inl (omega (arith, linear, k.0, mul_one p.x), omega (arith, linear, k.1, mul_one q.x)))
    into (inr (inl h)) = let k = (box.above room.low.y).0 h in inr (inr (inl (omega (arith, linear, k.0, mul_one p.y), omega (arith, linear, k.1, mul_one q.y))))
    into (inr (inr h)) = let k = (box.below room.high.y).0 h in inr (inr (inr (omega (arith, linear, k.0, mul_one p.y), omega (arith, linear, k.1, mul_one q.y))))

    out : AreBeyondOneSide (frame_seen room) (segment p q) → IsBeside room reach ⊎ IsAboveOrBelow room reach
    out (inl (h, k)) = inl (inl ((box.right room.low.x).1 (omega (arith, linear, h, mul_one p.x), omega (arith, linear, k, mul_one q.x))))
    out (inr (inl (h, k))) = inl (inr ((box.left room.high.x).1 (omega (arith, linear, h, mul_one p.x), omega (arith, linear, k, mul_one q.x))))
    out (inr (inr (inl (h, k)))) = inr (inl ((box.above room.low.y).1 (omega (arith, linear, h, mul_one p.y), omega (arith, linear, k, mul_one q.y))))
    out (inr (inr (inr (h, k)))) = inr (inr ((box.below room.high.y).1 (omega (arith, linear, h, mul_one p.y), omega (arith, linear, k, mul_one q.y))))
