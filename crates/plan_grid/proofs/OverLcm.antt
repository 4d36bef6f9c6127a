-- Two fractions in lowest terms over the least common multiple of their denominators: no number above 1 divides both numerators and the multiple.
use Rattle.std.proofs.Common.{◌≡◌, inl, inr, ℕ, zero, suc, ◌*◌, ◌/◌, ◌<◌, ◌≤◌, ◌^◌, ℤ, pos, ◌*ℤ◌, unsigned_abs, refl, sym, subst, ap, ◌∙◌, arith}
use Rattle.std.specs.Int.{IsGcd, ◌∣◌}
use Rattle.std.proofs.lemmas.Bool.{cases_order}
use Rattle.std.proofs.lemmas.Int.{ints, unsigned_abs-mul}
use Rattle.std.proofs.lemmas.Nat.Gcd.{dvd_refl, le_of_dvd}
use Rattle.std.proofs.Math.Nat.{one-dvd, dvd-mul_left, div-mul_cancel}
use Rattle.plan_exact.proofs.Sizes.{product_at_most}
use Rattle.plan_grid.specs.Bounds.{IsLowest, IsInRange}
use Rattle.plan_grid.specs.Fraction.{Fraction, IsRatio, IsLcm}
use Rattle.plan_grid.proofs.Lowest.{divisor_is_positive}
use Rattle.plan_grid.proofs.Multiples.{gcd_of_multiples}

-- one factor taken out of both sides
cancelled : (m n k : ℕ) → 0 < k → m * k ≡ n * k → m ≡ n
cancelled m n k h e = elim (cases_order m n) [
  | inl same ↦ same
  | inr other ↦ elim other [
    | inl less ↦ absurd (omega (arith, e, h, product_at_most (suc m) k n k less (omega arith)))
    | inr more ↦ absurd (omega (arith, e, h, product_at_most (suc n) k m k more (omega arith)))
  ]
]

-- the numerator over l, where q times the denominator is l
numerator : (x a : ℤ) (b l q : ℕ) → 0 < b → unsigned_abs x * b ≡ unsigned_abs a * l → q * b ≡ l → unsigned_abs x ≡ q * unsigned_abs a
numerator x a b l q h e f = cancelled (unsigned_abs x) (q * unsigned_abs a) b h (omega (arith, e, ap (λ n. unsigned_abs a * n) f))

-- what divides the numerator over l, and l, leaves a multiple of the denominator
left_over : (p : Fraction) (x : ℤ) (l e t : ℕ) → IsRatio p → 0 < l → unsigned_abs p.den ∣ l → unsigned_abs x * unsigned_abs p.den ≡ unsigned_abs p.num * l → e ∣ unsigned_abs x → e ∣ l → t * e ≡ l → unsigned_abs p.den ∣ t
left_over p x l e t ratio hl of_l value ex el te =
    let b = unsigned_abs p.den in
    let q = l / unsigned_abs p.den in
    let qb : q * b ≡ l = div-mul_cancel b of_l in
    let positive : 0 < unsigned_abs p.den = divisor_is_positive b l hl of_l in
    let whole = numerator x p.num b l q positive value qb in
    let one : IsGcd (unsigned_abs p.num) (unsigned_abs p.den) 1 = (one-dvd (unsigned_abs p.num), one-dvd (unsigned_abs p.den), λ d dn dd. subst (λ k. d ∣ k) (ratio.lowest d dn dd) (dvd_refl d)) in
    let h = gcd_of_multiples (unsigned_abs p.num) b 1 q e one (subst (λ n. e ∣ n) whole ex) (subst (λ n. e ∣ n) (sym qb) el) in
    let eq : e ∣ q = let r : q * 1 ≡ q = omega arith in subst (λ n. e ∣ n) r h in
    let qe : q / e * e ≡ q = div-mul_cancel e eq in
    let f : t * e ≡ (q / e * b) * e = omega (arith, te, qb, ap (λ n. n * b) qe) in
    subst (λ n. b ∣ n) (sym (cancelled t (q / e * b) e (divisor_is_positive e l hl el) f)) (dvd-mul_left b (q / e))

only_one : (t e l : ℕ) → 0 < l → t * e ≡ l → l ≤ t → e ≡ 1
only_one t zero l h f g = absurd (omega (arith, f))
only_one t (suc zero) l h f g = refl
only_one t (suc (suc e)) l h f g = absurd (omega (arith, f, g, h))

cross_size : (x d n : ℤ) (l : ℕ) → x *ℤ d ≡ n *ℤ pos l → unsigned_abs x * unsigned_abs d ≡ unsigned_abs n * l
cross_size x d n l e = sym (unsigned_abs-mul x d) ∙ ap unsigned_abs e ∙ unsigned_abs-mul n (pos l)

pub lowest_over : (p r : Fraction) (x y : ℤ) (l : ℕ) → IsRatio p → IsRatio r → 0 < l → IsLcm (unsigned_abs p.den) (unsigned_abs r.den) l → x *ℤ p.den ≡ p.num *ℤ pos l → y *ℤ r.den ≡ r.num *ℤ pos l → IsLowest (record { x = x; y = y; w = pos l })
lowest_over p r x y l hp hr hl (pl, rl, least) ex ey e dx dy dw =
    let t = l / e in
    let te : t * e ≡ l = div-mul_cancel e dw in
    let of_p = left_over p x l e t hp hl pl (cross_size x p.den p.num l ex) dx dw te in
    let of_r = left_over r y l e t hr hl rl (cross_size y r.den r.num l ey) dy dw te in
    let positive : 0 < t = divisor_is_positive t l hl (let f : e * t ≡ l = omega (arith, te) in subst (λ n. t ∣ n) f (dvd-mul_left t e)) in
    only_one t e l hl te (le_of_dvd positive (least t of_p of_r))

pub in_range_over : (p r : Fraction) (x y : ℤ) (l : ℕ) → IsRatio p → IsRatio r → 0 < l → l ≤ 2 ^ 51 → IsLcm (unsigned_abs p.den) (unsigned_abs r.den) l → x *ℤ p.den ≡ p.num *ℤ pos l → y *ℤ r.den ≡ r.num *ℤ pos l → unsigned_abs x ≤ 2046 * l → unsigned_abs y ≤ 2046 * l → IsInRange (record { x = x; y = y; w = pos l })
in_range_over p r x y l hp hr hl bounded lcm ex ey hx hy = record {
  weight = omega (arith, ints, hl);
  weight_bounded = bounded;
  x_bounded = hx;
  y_bounded = hy;
  lowest = lowest_over p r x y l hp hr hl lcm ex ey;
}
