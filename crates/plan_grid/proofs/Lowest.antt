-- Lowest terms: a spot is in them, since 1 has no divisor but itself, and so is what is left after division by a greatest common divisor.
use Rattle.std.proofs.Common.{◌≡◌, ℕ, zero, suc, ℤ, pos, ◌*ℤ◌, ◌≤ℤ◌, ◌<ℤ◌, ◌*◌, ◌<◌, ◌≤◌, ◌^◌, unsigned_abs, ap, subst, [], ◌∷◌, arith}
use Rattle.std.specs.Int.{IsGcd, ◌∣◌}
use Rattle.std.proofs.lemmas.Int.{ints, unsigned_abs-mul}
use Rattle.std.proofs.lemmas.Nat.Gcd.{le_of_dvd, dvd_trans, dvd-zero}
use Rattle.std.proofs.Math.Nat.{eq-one_of_dvd-one, eq-zero_of_zero-dvd, mul-dvd-mul_left, dvd_of_mul-dvd-mul_left, le_of_mul-le-mul_left}
use Rattle.plan_exact.specs.Expr.{var, ◌⊗◌}
use Rattle.plan_exact.proofs.Ring.{ring}
use Rattle.plan_exact.proofs.Laws.{linear, mul_comm, zero_mul}
use Rattle.plan_exact.proofs.Signs.{pos_of_mul}
use Rattle.plan_exact.proofs.Sizes.{product_at_most}
use Rattle.plan_spec.specs.Vector.{Vector, spot, Same}
use Rattle.plan_grid.specs.Fraction.{Fraction, SameValue, IsRatio}
use Rattle.plan_grid.specs.Bounds.{IsInRange, IsBounded, IsLowest, IsDivisor}

pub spot_is_in_range : (x y : ℤ) → unsigned_abs x ≤ 2046 → unsigned_abs y ≤ 2046 → IsInRange (spot x y)
spot_is_in_range x y h k = record {
  weight = omega (arith, ints);
  weight_bounded = omega arith;
  x_bounded = h;
  y_bounded = k;
  lowest = λ d dx dy dw. eq-one_of_dvd-one dw;
}

pub divisor_is_positive : (g n : ℕ) → 0 < n → g ∣ n → 0 < g
divisor_is_positive zero n h k = let e = eq-zero_of_zero-dvd k in absurd (omega arith)
divisor_is_positive (suc g) n h k = omega arith

pub divisor_of_gcds : (x y w : ℤ) (h g : ℕ) → pos 1 ≤ℤ w → unsigned_abs w < 2 ^ 63 → IsGcd (unsigned_abs x) (unsigned_abs y) h → IsGcd h (unsigned_abs w) g → IsDivisor (record { x = x; y = y; w = w }) g
divisor_of_gcds x y w h g weight bounded (hx, hy, hd) (gh, gw, gd) =
    let positive : 0 < unsigned_abs w = omega (arith, ints) in
    record {
      positive = divisor_is_positive g (unsigned_abs w) positive gw;
      bounded = omega (arith, le_of_dvd positive gw);
      x = dvd_trans g gh hx;
      y = dvd_trans g gh hy;
      w = gw;
      greatest = λ d dx dy dw. gd d (hd d dx dy) dw;
    }

-- q is p over g, the greatest number that divides p's three numbers
pub record IsReduced (p q : Vector) (g : ℕ) : Type 0 where
  pub x : q.x *ℤ pos g ≡ p.x
  pub y : q.y *ℤ pos g ≡ p.y
  pub w : q.w *ℤ pos g ≡ p.w
  pub divisor : IsDivisor p g

size_is : (q p : ℤ) (g : ℕ) → q *ℤ pos g ≡ p → g * unsigned_abs q ≡ unsigned_abs p
size_is q p g e = omega (arith, unsigned_abs-mul q (pos g), ap unsigned_abs e)

cancelled : (g a b : ℕ) → 0 < g → g * a ≤ 2046 * (g * b) → a ≤ 2046 * b
cancelled g a b h k = le_of_mul-le-mul_left {m = a} {n = 2046 * b} {k = g} (omega arith) h

module _ (p q : Vector) (g : ℕ) (r : IsReduced p q g) where
  reduced_is_lowest : IsLowest q
  reduced_is_lowest d dx dy dw =
      let x = subst (λ n. g * d ∣ n) (size_is q.x p.x g r.x) (mul-dvd-mul_left d g dx) in
      let y = subst (λ n. g * d ∣ n) (size_is q.y p.y g r.y) (mul-dvd-mul_left d g dy) in
      let w = subst (λ n. g * d ∣ n) (size_is q.w p.w g r.w) (mul-dvd-mul_left d g dw) in
      let one : g ≡ g * 1 = omega arith in
      eq-one_of_dvd-one (dvd_of_mul-dvd-mul_left d r.divisor.positive (subst (λ n. g * d ∣ n) one (r.divisor.greatest (g * d) x y w)))

  reduced_is_bounded : (most : ℕ) → IsBounded most p → IsBounded most q
  reduced_is_bounded most b =
      let x = size_is q.x p.x g r.x in
      let y = size_is q.y p.y g r.y in
      let w = size_is q.w p.w g r.w in
      let positive = r.divisor.positive in
      let g_positive : pos 0 <ℤ pos g = omega (arith, ints) in
      let product : pos 0 <ℤ (pos g *ℤ q.w) = omega (arith, linear, mul_comm (pos g) q.w, r.w, b.weight) in
      let weight = pos_of_mul g_positive product in
      record {
        weight = omega (arith, linear);
        weight_bounded = omega (arith, product_at_most 1 (unsigned_abs q.w) g (unsigned_abs q.w) positive (omega arith));
        x_bounded = cancelled g (unsigned_abs q.x) (unsigned_abs q.w) positive (omega arith);
        y_bounded = cancelled g (unsigned_abs q.y) (unsigned_abs q.w) positive (omega arith);
      }

  pub reduced_is_same : Same q p
  reduced_is_same =
      rw (← r.x, ← r.y, ← r.w) (
        ring (q.x ∷ q.w ∷ pos g ∷ []) (var 0 ⊗ (var 1 ⊗ var 2)) (var 0 ⊗ var 2 ⊗ var 1) tt,
        ring (q.y ∷ q.w ∷ pos g ∷ []) (var 0 ⊗ (var 1 ⊗ var 2)) (var 0 ⊗ var 2 ⊗ var 1) tt,
      )

  pub reduced_is_in_range : IsBounded (2 ^ 51) p → IsInRange q
  reduced_is_in_range b =
      let c = reduced_is_bounded (2 ^ 51) b in
      record {
        weight = c.weight;
        weight_bounded = c.weight_bounded;
        x_bounded = c.x_bounded;
        y_bounded = c.y_bounded;
        lowest = reduced_is_lowest;
      }

-- a fraction as the point of the x axis that it stands for
abbrev pub on_axis : Fraction → Vector
on_axis p = record { x = p.num; y = pos 0; w = p.den }

module _ (p q : Fraction) (g : ℕ) (num : q.num *ℤ pos g ≡ p.num) (den : q.den *ℤ pos g ≡ p.den) (divisor : IsDivisor (on_axis p) g) where
  on_axis_is_reduced : IsReduced (on_axis p) (on_axis q) g
  on_axis_is_reduced = record { x = num; y = zero_mul (pos g); w = den; divisor = divisor }

  pub fraction_is_same : SameValue q p
  fraction_is_same = (reduced_is_same (on_axis p) (on_axis q) g on_axis_is_reduced).0

  pub fraction_is_ratio : pos 1 ≤ℤ p.den → unsigned_abs p.den ≤ 2 ^ 52 → unsigned_abs p.num ≤ 2046 * unsigned_abs p.den → IsRatio q
  fraction_is_ratio h k m =
      let b = reduced_is_bounded (on_axis p) (on_axis q) g on_axis_is_reduced (2 ^ 52) (record { weight = h; weight_bounded = k; x_bounded = m; y_bounded = omega arith }) in
      record {
        positive = b.weight;
        den_bounded = b.weight_bounded;
        num_bounded = b.x_bounded;
        lowest = λ d n e. reduced_is_lowest (on_axis p) (on_axis q) g on_axis_is_reduced d n (dvd-zero d) e;
      }
