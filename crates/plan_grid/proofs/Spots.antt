-- Spots in the order by x, then by y, which is total: of two different ones one comes before the other.
use Rattle.std.proofs.Common.{◌≡◌, ◌⊎◌, inl, inr, ℕ, pos, ◌*ℤ◌, ◌≤◌, ◌∙◌, sym, ap, List, get_or, arith}
use Rattle.plan_exact.specs.Sign.{Order, is_less, is_equal, is_greater}
use Rattle.plan_exact.proofs.Laws.{linear}
use Rattle.plan_exact.proofs.Signs.{order_of}
use Rattle.plan_spec.specs.Vector.{Before, Same}
use Rattle.plan_grid.specs.declared.spot.Spot.{Spot}
use Rattle.plan_grid.specs.Spot.{spot_seen, IsWithin}

abbrev pub origin : Spot
origin = record { x = pos 0; y = pos 0 }

-- the spot of that number, as code reads it
abbrev pub corner : List Spot → ℕ → Spot
corner spots i = get_or spots i origin

-- two spots of the same coordinates are one
pub spot_path : {p q : Spot} → p.x ≡ q.x → p.y ≡ q.y → p ≡ q
spot_path e f = λ i. record { x = e i; y = f i }

-- spots at one position are one
pub same_spots : (p q : Spot) → Same (spot_seen p) (spot_seen q) → p ≡ q
same_spots p q (ex, ey) = spot_path (omega (arith, linear)) (omega (arith, linear))

pub same_from : (p q : Spot) → p ≡ q → Same (spot_seen p) (spot_seen q)
same_from p q e = (ap (λ (s : Spot). s.x *ℤ pos 1) e, ap (λ (s : Spot). s.y *ℤ pos 1) e)

pub within_more : (k l : ℕ) (s : Spot) → k ≤ l → IsWithin k s → IsWithin l s
within_more k l s more h = record { x = omega arith; y = omega arith }

pub before_or_after : (p q : Spot) → ¬ (p ≡ q) → Before (spot_seen p) (spot_seen q) ⊎ Before (spot_seen q) (spot_seen p)
before_or_after p q apart = by (order_of p.x q.x) (order_of p.y q.y)
  where
    by : Order p.x q.x → Order p.y q.y → Before (spot_seen p) (spot_seen q) ⊎ Before (spot_seen q) (spot_seen p)
    by (is_less h) k = inl (inl (omega (arith, linear)))
    by (is_greater h) k = inr (inl (omega (arith, linear)))
    by (is_equal h) (is_less k) = inl (inr (ap (λ z. z *ℤ pos 1) h, omega (arith, linear)))
    by (is_equal h) (is_greater k) = inr (inr (ap (λ z. z *ℤ pos 1) (sym h), omega (arith, linear)))
    by (is_equal h) (is_equal k) = absurd (apart (spot_path h k))

pub before_trans : (p q r : Spot) → Before (spot_seen p) (spot_seen q) → Before (spot_seen q) (spot_seen r) → Before (spot_seen p) (spot_seen r)
before_trans p q r (inl h) (inl k) = inl (omega (arith, linear))
before_trans p q r (inl h) (inr k) = let e = k.0 in inl (omega (arith, linear))
before_trans p q r (inr h) (inl k) = let e = h.0 in inl (omega (arith, linear))
before_trans p q r (inr h) (inr k) = let x = h.1 in let y = k.1 in inr (h.0 ∙ k.0, omega (arith, linear))
