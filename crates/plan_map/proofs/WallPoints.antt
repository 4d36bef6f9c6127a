-- The point halfway between two marks of a line: how large the least common denominators are, and where it is.
use Rattle.std.proofs.Common.{◌≡◌, ◌⊎◌, inl, inr, ℕ, ◌*◌, ◌/◌, ◌<◌, ◌≤◌, ◌^◌, ℤ, pos, ◌+ℤ◌, ◌-ℤ◌, ◌*ℤ◌, ◌<ℤ◌, List, [], ◌∷◌, sym, ap, ◌∙◌, subst, unsigned_abs, arith}
use Rattle.std.specs.Int.{◌∣◌}
use Rattle.std.proofs.Math.Nat.{dvd-mul_right_of_dvd, dvd-mul_left_of_dvd, dvd-mul_left, div-mul_cancel}
use Rattle.std.proofs.lemmas.Int.{ints, unsigned_abs-mul}
use Rattle.plan_exact.specs.Expr.{con, ◌⊕◌, ◌⊖◌, ◌⊗◌}
use Rattle.plan_exact.specs.Formal.{A, B, C, D}
use Rattle.plan_exact.specs.Vectors.{env}
use Rattle.plan_exact.proofs.Certificates.{eq_from}
use Rattle.plan_exact.proofs.Laws.{linear}
use Rattle.plan_exact.proofs.Ring.{ring}
use Rattle.plan_exact.proofs.Signs.{zeros, mul_pos}
use Rattle.plan_exact.proofs.Sizes.{product_at_most}
use Rattle.plan_spec.specs.Vector.{Same, IsPoint}
use Rattle.plan_spec.specs.Regions.{halfway}
use Rattle.plan_grid.specs.Fraction.{Fraction, SameValue, IsRatio, IsLcm, middle_of, point_at}
use Rattle.plan_grid.proofs.Multiples.{lcm_at_most}
use Rattle.plan_grid.proofs.Unique.{den_divides}
use Rattle.plan_slab.specs.EventLines.{IsLine}
use Rattle.plan_slab.specs.Heights.{IsHeightOn}

-- ---- a common multiple of the denominators
small_product : (c e d : ℕ) → 1 ≤ d → d < 2 ^ 25 → (c ≤ 4092) ⊎ (c * d < 2 ^ 25) → (e ≤ 4092) ⊎ (e * d < 2 ^ 25) → 2 * ((c * e) * d) ≤ 2 ^ 51
small_product c e d hd light (inl h) (inl k) = omega (arith, product_at_most (c * e) d (4092 * 4092) (2 ^ 25) (product_at_most c e 4092 4092 h k) (omega (arith, light)))
small_product c e d hd light (inl h) (inr k) = omega (arith, product_at_most c (e * d) 4092 (2 ^ 25) h (omega (arith, k)))
small_product c e d hd light (inr h) (inl k) = omega (arith, product_at_most e (c * d) 4092 (2 ^ 25) k (omega (arith, h)))
small_product c e d hd light (inr h) (inr k) =
    let small : e ≤ e * d = omega (arith, product_at_most e 1 e d (omega arith) hd) in
    omega (arith, product_at_most (c * d) e (2 ^ 25) (2 ^ 25) (omega (arith, h)) (omega (arith, small, k)))

positive_product : (c e d : ℕ) → 1 ≤ c → 1 ≤ e → 1 ≤ d → 0 < (c * e) * d
positive_product c e d hc he hd = omega (arith, product_at_most 1 1 (c * e) d (omega (arith, product_at_most 1 1 c e hc he)) hd)

module _ (l f g : Fraction) (hl : IsLine l) (hf : IsHeightOn l f) (hg : IsHeightOn l g) where
  abbrev multiple : ℕ
  multiple = (hf.factor * hg.factor) * unsigned_abs l.den

  line_positive : 1 ≤ unsigned_abs l.den
  line_positive = let h = hl.ratio.positive in omega (arith, ints)

  multiple_positive : 0 < multiple
  multiple_positive = positive_product hf.factor hg.factor (unsigned_abs l.den) hf.positive hg.positive line_positive

  multiple_bounded : 2 * multiple ≤ 2 ^ 51
  multiple_bounded = small_product hf.factor hg.factor (unsigned_abs l.den) line_positive hl.bounded hf.small hg.small

  first_divides : unsigned_abs f.den ∣ multiple
  first_divides = let e : (hf.factor * unsigned_abs l.den) * hg.factor ≡ (hf.factor * hg.factor) * unsigned_abs l.den = omega arith in subst (λ n. unsigned_abs f.den ∣ n) e (dvd-mul_right_of_dvd (unsigned_abs f.den) hf.divides hg.factor)

  second_divides : unsigned_abs g.den ∣ multiple
  second_divides = let e : (hg.factor * unsigned_abs l.den) * hf.factor ≡ (hf.factor * hg.factor) * unsigned_abs l.den = omega arith in subst (λ n. unsigned_abs g.den ∣ n) e (dvd-mul_right_of_dvd (unsigned_abs g.den) hg.divides hf.factor)

  pub middle_fits : (n : ℕ) → IsLcm (unsigned_abs f.den) (unsigned_abs g.den) n → 2 * n ≤ 2 ^ 52
  middle_fits n h = omega (arith, lcm_at_most (unsigned_abs f.den) (unsigned_abs g.den) n multiple h multiple_positive first_divides second_divides, multiple_bounded)

-- ---- the denominator of the middle
halved : (fn fd gn gd rn rd m u v : ℤ) → pos 0 <ℤ fd → pos 0 <ℤ gd → rn *ℤ (pos 2 *ℤ (fd *ℤ gd)) ≡ (fn *ℤ gd +ℤ gn *ℤ fd) *ℤ rd → u *ℤ fd ≡ m → v *ℤ gd ≡ m → rn *ℤ (pos 2 *ℤ m) ≡ (fn *ℤ u +ℤ gn *ℤ v) *ℤ rd
halved fn fd gn gd rn rd m u v hf hg e eu ev =
    let z : rn *ℤ (pos 2 *ℤ (fd *ℤ gd)) -ℤ (fn *ℤ gd +ℤ gn *ℤ fd) *ℤ rd ≡ pos 0 = omega (arith, linear, e) in
    let zu : m -ℤ u *ℤ fd ≡ pos 0 = omega (arith, linear, eu) in
    let zv : m -ℤ v *ℤ gd ≡ pos 0 = omega (arith, linear, ev) in
    eq_from (env [] (record { x = fn; y = gn; w = rn } ∷ record { x = fd; y = gd; w = rd } ∷ record { x = m; y = u; w = v } ∷ [])) (B.x ⊗ B.y)
    (C.x ⊗ (A.w ⊗ (con (pos 2) ⊗ (B.x ⊗ B.y)) ⊖ (A.x ⊗ B.y ⊕ A.y ⊗ B.x) ⊗ B.w) ⊕ (((B.w ⊗ A.x) ⊗ B.y) ⊗ (C.x ⊖ C.y ⊗ B.x) ⊕ ((B.w ⊗ A.y) ⊗ B.x) ⊗ (C.x ⊖ C.w ⊗ B.y)))
    (A.w ⊗ (con (pos 2) ⊗ C.x)) ((A.x ⊗ C.y ⊕ A.y ⊗ C.w) ⊗ B.w) tt (mul_pos {a = fd} {b = gd} hf hg) (search zeros)

factor_of : (a : ℤ) (m : ℕ) → pos 0 <ℤ a → unsigned_abs a ∣ m → pos (m / unsigned_abs a) *ℤ a ≡ pos m
factor_of a m h d =
    let e : pos (unsigned_abs a) ≡ a = omega (arith, ints) in
    let f = div-mul_cancel (unsigned_abs a) d in
    ap (λ x. pos (m / unsigned_abs a) *ℤ x) (sym e) ∙ ap pos f

half_divides : (f g r : Fraction) (m : ℕ) → pos 0 <ℤ f.den → pos 0 <ℤ g.den → IsRatio r → SameValue r (middle_of f g) → unsigned_abs f.den ∣ m → unsigned_abs g.den ∣ m → unsigned_abs r.den ∣ 2 * m
half_divides f g r m pf pg hr same df dg =
    let u = pos (m / unsigned_abs f.den) in
    let v = pos (m / unsigned_abs g.den) in
    let e = halved f.num f.den g.num g.den r.num r.den (pos m) u v pf pg same (factor_of f.den m pf df) (factor_of g.den m pg dg) in
    subst (λ n. unsigned_abs r.den ∣ n) (unsigned_abs-mul (pos 2) (pos m)) (den_divides r (record { num = f.num *ℤ u +ℤ g.num *ℤ v; den = pos 2 *ℤ pos m }) hr e)

-- ---- where it is
module _ (l f g r : Fraction) (hl : IsLine l) (hf : IsHeightOn l f) (hg : IsHeightOn l g) (hr : IsRatio r) (same : SameValue r (middle_of f g)) where
  first_positive : pos 0 <ℤ f.den
  first_positive = omega (arith, linear, hf.height.ratio.positive)

  second_positive : pos 0 <ℤ g.den
  second_positive = omega (arith, linear, hg.height.ratio.positive)

  pub point_fits : (n : ℕ) → IsLcm (unsigned_abs l.den) (unsigned_abs r.den) n → n ≤ 2 ^ 51
  point_fits n h =
      let m = multiple l f g hl hf hg in
      let twice : 0 < 2 * multiple l f g hl hf hg = omega (arith, multiple_positive l f g hl hf hg) in
      let line = dvd-mul_left_of_dvd (unsigned_abs l.den) (dvd-mul_left (unsigned_abs l.den) (hf.factor * hg.factor)) 2 in
      let half = half_divides f g r m first_positive second_positive hr same (first_divides l f g hl hf hg) (second_divides l f g hl hf hg) in
      omega (arith, lcm_at_most (unsigned_abs l.den) (unsigned_abs r.den) n (2 * multiple l f g hl hf hg) h twice line half, multiple_bounded l f g hl hf hg)

  pub middle_point : IsPoint (point_at l r)
  middle_point = mul_pos {a = l.den} {b = r.den} (omega (arith, linear, hl.ratio.positive)) (omega (arith, linear, hr.positive))

  pub middle_same : Same (point_at l r) (halfway (point_at l f) (point_at l g))
  middle_same = (
    ring at ((A.x ⊗ D.w) ⊗ (con (pos 2) ⊗ ((A.w ⊗ B.w) ⊗ (A.w ⊗ C.w)))) (((A.x ⊗ B.w) ⊗ (A.w ⊗ C.w) ⊕ (A.x ⊗ C.w) ⊗ (A.w ⊗ B.w)) ⊗ (A.w ⊗ D.w)) tt,
    eq_from at (con (pos 1)) (((A.w ⊗ A.w) ⊗ A.w) ⊗ (D.x ⊗ (con (pos 2) ⊗ (B.w ⊗ C.w)) ⊖ (B.x ⊗ C.w ⊕ C.x ⊗ B.w) ⊗ D.w))
        ((D.x ⊗ A.w) ⊗ (con (pos 2) ⊗ ((A.w ⊗ B.w) ⊗ (A.w ⊗ C.w)))) (((B.x ⊗ A.w) ⊗ (A.w ⊗ C.w) ⊕ (C.x ⊗ A.w) ⊗ (A.w ⊗ B.w)) ⊗ (A.w ⊗ D.w)) tt (omega (arith, linear)) zero,
  )
    where
      at : List ℤ
      at = env [] (record { x = l.num; y = pos 0; w = l.den } ∷ record { x = f.num; y = pos 0; w = f.den } ∷ record { x = g.num; y = pos 0; w = g.den } ∷ record { x = r.num; y = pos 0; w = r.den } ∷ [])

      zero : ((l.den *ℤ l.den) *ℤ l.den) *ℤ (r.num *ℤ (pos 2 *ℤ (f.den *ℤ g.den)) -ℤ (f.num *ℤ g.den +ℤ g.num *ℤ f.den) *ℤ r.den) ≡ pos 0
      zero =
          let z : r.num *ℤ (pos 2 *ℤ (f.den *ℤ g.den)) -ℤ (f.num *ℤ g.den +ℤ g.num *ℤ f.den) *ℤ r.den ≡ pos 0 = omega (arith, linear, same) in
          search zeros
