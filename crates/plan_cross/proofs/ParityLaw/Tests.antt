-- What the tests of `over` and `counted` answer, from the order of the numbers.
use Rattle.std.proofs.Common.{◌≡◌, pos, Bool, true, false, ◌&&◌, ◌||◌, int_lt, refl}
use Rattle.std.proofs.Math.Bool.{or-false, and-false}
use Rattle.plan_exact.proofs.Tests.{le_true, le_false, lt_true, lt_false}
use Rattle.plan_spec.specs.Vector.{Vector, LeX, LtX, turn}
use Rattle.plan_spec.specs.Parity.{over, counted}
use Rattle.plan_spec.specs.Segment.{segment}

-- ---- over, by where z is among the ends
pub over_right_of_a : (a b z : Vector) → LeX a z → LtX z b → over (segment a b) z ≡ int_lt (turn a b z) (pos 0)
over_right_of_a a b z h k = shown (int_lt (turn a b z) (pos 0)) _ (le_true h) (lt_true k) (le_false k)
  where
    shown : (t x : Bool) {l m n : Bool} → l ≡ true → m ≡ true → n ≡ false → ((l && (m && t)) || (n && x)) ≡ t
    shown t x e f g = rw (e, f, g) (or-false t)

pub over_past_both : (a b z : Vector) → LeX a z → LeX b z → over (segment a b) z ≡ false
over_past_both a b z h k = shown _ _ _ _ (lt_false k) (lt_false h)
  where
    shown : (l n t x : Bool) {m o : Bool} → m ≡ false → o ≡ false → ((l && (m && t)) || (n && (o && x))) ≡ false
    shown l n t x f g = rw (f, g) (rw (and-false l, and-false n) refl)

pub over_before_both : (a b z : Vector) → LtX z a → LtX z b → over (segment a b) z ≡ false
over_before_both a b z h k = shown _ _ (le_false h) (le_false k)
  where
    shown : (t x : Bool) {l n : Bool} → l ≡ false → n ≡ false → ((l && t) || (n && x)) ≡ false
    shown t x e f = rw (e, f) refl

-- ---- counted, by where e is among the ends of the path
pub counted_among : (p q e : Vector) → LtX p e → LeX e q → counted p q e ≡ int_lt (pos 0) (turn p q e)
counted_among p q e h k = rw (lt_true h, le_true k) refl

pub counted_before : (p q e : Vector) → LeX e p → counted p q e ≡ false
counted_before p q e h = rw (lt_false h) refl

pub counted_beyond : (p q e : Vector) → LtX p e → LtX q e → counted p q e ≡ false
counted_beyond p q e h k = rw (lt_true h, le_false k) refl
