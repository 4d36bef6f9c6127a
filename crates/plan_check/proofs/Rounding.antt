-- Division of whole numbers rounds down: the numbers up to a quotient are those whose multiples are at most the dividend.
use Rattle.std.proofs.Common.{◌≡◌, ◌↔◌, ℕ, suc, ◌+◌, ◌*◌, ◌/◌, ◌<◌, ◌≤◌, ℤ, pos, negsuc, neg_ℤ, ◌+ℤ◌, ◌-ℤ◌, ◌*ℤ◌, ◌≤ℤ◌, ◌<ℤ◌, unsigned_abs, sym, subst, arith}
use Rattle.std.specs.Int.{int_div_euclid}
use Rattle.std.proofs.lemmas.Int.{ints}
use Rattle.std.proofs.Math.Nat.{div-mul-le_self, lt-div-mul-add}
use Rattle.plan_exact.proofs.Laws.{linear, neg_mul}
use Rattle.plan_exact.proofs.Signs.{mul_le_mul, lt_of_mul, le_of_mul, le_of_lt}

rounds_down : (z : ℤ) (w : ℕ) → 0 < w → ((int_div_euclid z (pos w) *ℤ pos w) ≤ℤ z) × (z <ℤ ((int_div_euclid z (pos w) +ℤ pos 1) *ℤ pos w))
rounds_down (pos a) w h =
    let up : a < a / w * w + w = lt-div-mul-add h in
    let e : (a / w + 1) * w ≡ a / w * w + w = omega arith in
    (omega (arith, ints, div-mul-le_self a w), omega (arith, ints))
rounds_down (negsuc a) w h =
    let up : a < a / w * w + w = lt-div-mul-add h in
    let e : suc (a / w) * w ≡ a / w * w + w = omega arith in
    let f : negsuc (a / w) +ℤ pos 1 ≡ neg_ℤ (pos (a / w)) = omega (arith, ints) in (
      omega (arith, ints),
      subst (λ x. negsuc a <ℤ (x *ℤ pos w)) (sym f) (omega (arith, ints, neg_mul (pos (a / w)) (pos w), div-mul-le_self a w)),
    )

pub floor_is : (n w : ℤ) → pos 1 ≤ℤ w → (m : ℤ) → (m ≤ℤ int_div_euclid n w) ↔ ((m *ℤ w) ≤ℤ n)
floor_is n (negsuc w) h m = absurd (omega (arith, ints))
floor_is n (pos w) h m =
    let r = rounds_down n w (omega (arith, ints)) in
    let hw : pos 0 <ℤ pos w = omega (arith, ints) in
    let f = int_div_euclid n (pos w) in (
      λ le. omega (arith, linear, mul_le_mul (pos w) (le_of_lt hw) le, r.0),
      λ le. let lt = lt_of_mul m (f +ℤ pos 1) (pos w) hw (omega (arith, linear, le, r.1)) in omega (arith, linear, lt),
    )

pub floor_bounded : (n w : ℤ) (k : ℕ) → pos 1 ≤ℤ w → unsigned_abs n ≤ k * unsigned_abs w → unsigned_abs (int_div_euclid n w) ≤ k
floor_bounded n (negsuc w) k h bounded = absurd (omega (arith, ints))
floor_bounded n (pos w) k h bounded =
    let f = int_div_euclid n (pos w) in
    let hw : pos 0 <ℤ pos w = omega (arith, ints) in
    let low = (floor_is n (pos w) h f).0 (omega (arith, linear)) in
    let upto = le_of_mul f (pos k) (pos w) hw (omega (arith, ints, low, bounded)) in
    let from = (floor_is n (pos w) h (neg_ℤ (pos k))).1 (omega (arith, ints, neg_mul (pos k) (pos w), bounded)) in
    omega (arith, ints)

-- the least number that is at least n / w is the negative of the greatest that is at most - n / w
pub ceiling_is : (n w f : ℤ) → ((m : ℤ) → (m ≤ℤ f) ↔ ((m *ℤ w) ≤ℤ (pos 0 -ℤ n))) → (m : ℤ) → ((pos 0 -ℤ f) ≤ℤ m) ↔ (n ≤ℤ (m *ℤ w))
ceiling_is n w f h m =
    let e = neg_mul m w in (
      λ le. let k = (h (neg_ℤ m)).0 (omega (arith, ints, le)) in omega (arith, ints, k, e),
      λ le. let k = (h (neg_ℤ m)).1 (omega (arith, ints, le, e)) in omega (arith, ints, k),
    )
