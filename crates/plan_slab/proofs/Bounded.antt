-- How large feet of strands and points halfway are.
use Rattle.std.proofs.Common.{◌≡◌, List, [], ◌∷◌, ℕ, ◌+◌, ◌*◌, ◌≤◌, ◌^◌, ℤ, pos, ◌+ℤ◌, ◌-ℤ◌, ◌*ℤ◌, ◌≤ℤ◌, ◌<ℤ◌, neg_ℤ, subst, ap, ap₂, arith}
use Rattle.std.specs.Int.RustNames.{unsigned_abs}
use Rattle.std.proofs.lemmas.Int.{ints, unsigned_abs-mul}
use Rattle.plan_exact.specs.Expr.{Expr, con, ◌⊕◌, ◌⊗◌}
use Rattle.plan_exact.specs.Formal as F
use Rattle.plan_exact.specs.Formal.{A, B, C}
use Rattle.plan_exact.specs.Vectors.{Vector, env}
use Rattle.plan_exact.proofs.Ring.{ring}
use Rattle.plan_exact.proofs.Laws.{linear, add_mul, neg_mul, mul_comm}
use Rattle.plan_exact.proofs.Signs.{mul_pos}
use Rattle.plan_exact.proofs.Sizes.{product_at_most}
use Rattle.plan_spec.specs.Regions.{foot, halfway}
use Rattle.plan_spec.specs.Vector.{Same}
use Rattle.plan_grid.specs.Fraction.{Fraction, point_at}
use Rattle.plan_slab.specs.EventLines.{IsLine}
use Rattle.plan_grid.specs.Bounds.{IsBounded}
use Rattle.plan_slab.specs.declared.strand.Strand.{Strand}
use Rattle.plan_slab.specs.Heights.{IsOver, IsHeight}
use Rattle.plan_slab.specs.Seen.{strand_seen}

-- a sum of two products
pub two_products : (a b c d : ℤ) → unsigned_abs (a *ℤ b +ℤ c *ℤ d) ≤ unsigned_abs a * unsigned_abs b + unsigned_abs c * unsigned_abs d
two_products a b c d = omega (arith, ints, unsigned_abs-mul a b, unsigned_abs-mul c d)

twice : (a : ℤ) → unsigned_abs (pos 2 *ℤ a) ≡ 2 * unsigned_abs a
twice a = unsigned_abs-mul (pos 2) a

at_least_one : (a : ℤ) → pos 0 <ℤ a → pos 1 ≤ℤ (pos 2 *ℤ a)
at_least_one a h = omega (arith, linear)

mixed : (a b u v p q : ℕ) → a ≤ 2046 * u → b ≤ 2046 * v → p ≤ a * v + b * u → q ≡ 2 * (u * v) → p ≤ 2046 * q
mixed a b u v p q ha hb hp e = omega (arith, product_at_most a v (2046 * u) v ha (omega arith), product_at_most b u (2046 * v) u hb (omega arith))

pub halfway_bounded : (m k : ℕ) (u v : Vector) → IsBounded m u → IsBounded m v → 2 * (m * m) ≤ k → IsBounded k (halfway u v)
halfway_bounded m k u v hu hv h = record {
  weight = at_least_one (u.w *ℤ v.w) (mul_pos {a = u.w} {b = v.w} (omega (arith, linear, hu.weight)) (omega (arith, linear, hv.weight)));
  weight_bounded = omega (arith, w, product_at_most (unsigned_abs u.w) (unsigned_abs v.w) m m hu.weight_bounded hv.weight_bounded);
  x_bounded = mixed (unsigned_abs u.x) (unsigned_abs v.x) (unsigned_abs u.w) (unsigned_abs v.w) _ _ hu.x_bounded hv.x_bounded (two_products u.x v.w v.x u.w) w;
  y_bounded = mixed (unsigned_abs u.y) (unsigned_abs v.y) (unsigned_abs u.w) (unsigned_abs v.w) _ _ hu.y_bounded hv.y_bounded (two_products u.y v.w v.y u.w) w;
}
  where
    w : unsigned_abs (pos 2 *ℤ (u.w *ℤ v.w)) ≡ 2 * (unsigned_abs u.w * unsigned_abs v.w)
    w = omega (arith, twice (u.w *ℤ v.w), unsigned_abs-mul u.w v.w)

-- a mean of two numbers, with weights that are not negative
mean : (l p a b : ℤ) → pos 0 ≤ℤ l → pos 0 ≤ℤ p → unsigned_abs a ≤ 2046 → unsigned_abs b ≤ 2046 → unsigned_abs (l *ℤ a +ℤ p *ℤ b) ≤ 2046 * unsigned_abs (l +ℤ p)
mean l p a b hl hp ha hb =
    let total : unsigned_abs (l +ℤ p) ≡ unsigned_abs l + unsigned_abs p = omega (arith, ints) in
    omega (arith, two_products l a p b, product_at_most (unsigned_abs l) (unsigned_abs a) (unsigned_abs l) 2046 (omega arith) ha, product_at_most (unsigned_abs p) (unsigned_abs b) (unsigned_abs p) 2046 (omega arith) hb)

-- the range of the strand, times the weight
wide : (a b : ℤ) (w : ℤ) → unsigned_abs a ≤ 2046 → unsigned_abs b ≤ 2046 → unsigned_abs w ≤ 2 ^ 26 → unsigned_abs ((b -ℤ a) *ℤ w) ≤ 2 ^ 38
wide a b w ha hb hw =
    let d : unsigned_abs (b -ℤ a) ≤ 4092 = omega (arith, ints) in
    omega (arith, unsigned_abs-mul (b -ℤ a) w, product_at_most (unsigned_abs (b -ℤ a)) (unsigned_abs w) 4092 (2 ^ 26) d hw)

-- ---- feet
-- as they are computed
abbrev pub foot_by : ℤ → ℤ → Strand → Vector
foot_by left past s = record { x = left *ℤ s.a.x +ℤ past *ℤ s.b.x; y = left *ℤ s.a.y +ℤ past *ℤ s.b.y; w = left *ℤ pos 1 +ℤ past *ℤ pos 1 }

pub foot_is : (s : Strand) (z : Vector) → foot_by (s.b.x *ℤ z.w -ℤ z.x) (z.x -ℤ s.a.x *ℤ z.w) s ≡ foot (strand_seen s) z
foot_is s z = λ i. record { x = sums s.a.x s.b.x i; y = sums s.a.y s.b.y i; w = sums (pos 1) (pos 1) i }
  where
    left : s.b.x *ℤ z.w -ℤ z.x ≡ s.b.x *ℤ z.w -ℤ z.x *ℤ pos 1
    left = omega (arith, linear)

    past : z.x -ℤ s.a.x *ℤ z.w ≡ z.x *ℤ pos 1 -ℤ s.a.x *ℤ z.w
    past = omega (arith, linear)

    sums : (a b : ℤ) → (s.b.x *ℤ z.w -ℤ z.x) *ℤ a +ℤ (z.x -ℤ s.a.x *ℤ z.w) *ℤ b ≡ (s.b.x *ℤ z.w -ℤ z.x *ℤ pos 1) *ℤ a +ℤ (z.x *ℤ pos 1 -ℤ s.a.x *ℤ z.w) *ℤ b
    sums a b = ap₂ (λ l p. l *ℤ a +ℤ p *ℤ b) left past

pub foot_bounded : (s : Strand) (z : Vector) → IsOver s z → IsBounded (2 ^ 26) z → IsBounded (2 ^ 38) (foot_by (s.b.x *ℤ z.w -ℤ z.x) (z.x -ℤ s.a.x *ℤ z.w) s)
foot_bounded s z h hz = record {
  weight = heavy;
  weight_bounded = light;
  x_bounded = by s.a.x s.b.x h.a_bounded.x h.b_bounded.x;
  y_bounded = by s.a.y s.b.y h.a_bounded.y h.b_bounded.y;
}
  where
    left : ℤ
    left = s.b.x *ℤ z.w -ℤ z.x

    past : ℤ
    past = z.x -ℤ s.a.x *ℤ z.w

    hl : pos 0 ≤ℤ (s.b.x *ℤ z.w -ℤ z.x)
    hl = omega (arith, linear, h.to)

    hp : pos 0 ≤ℤ (z.x -ℤ s.a.x *ℤ z.w)
    hp = omega (arith, linear, h.from)

    w : (s.b.x *ℤ z.w -ℤ z.x) +ℤ (z.x -ℤ s.a.x *ℤ z.w) ≡ (s.b.x -ℤ s.a.x) *ℤ z.w
    w = let e : (s.b.x -ℤ s.a.x) *ℤ z.w ≡ s.b.x *ℤ z.w +ℤ neg_ℤ s.a.x *ℤ z.w = add_mul s.b.x (neg_ℤ s.a.x) z.w in omega (arith, linear, e, neg_mul s.a.x z.w)

    total : (s.b.x *ℤ z.w -ℤ z.x) *ℤ pos 1 +ℤ (z.x -ℤ s.a.x *ℤ z.w) *ℤ pos 1 ≡ (s.b.x *ℤ z.w -ℤ z.x) +ℤ (z.x -ℤ s.a.x *ℤ z.w)
    total = omega (arith, linear)

    heavy : pos 1 ≤ℤ ((s.b.x *ℤ z.w -ℤ z.x) *ℤ pos 1 +ℤ (z.x -ℤ s.a.x *ℤ z.w) *ℤ pos 1)
    heavy = let m : pos 0 <ℤ ((s.b.x -ℤ s.a.x) *ℤ z.w) = mul_pos {a = s.b.x -ℤ s.a.x} {b = z.w} (omega (arith, linear, h.rising)) (omega (arith, linear, hz.weight)) in omega (arith, linear, m, w, total)

    light : unsigned_abs ((s.b.x *ℤ z.w -ℤ z.x) *ℤ pos 1 +ℤ (z.x -ℤ s.a.x *ℤ z.w) *ℤ pos 1) ≤ 2 ^ 38
    light = omega (arith, ap unsigned_abs total, ap unsigned_abs w, wide s.a.x s.b.x z.w h.a_bounded.x h.b_bounded.x hz.weight_bounded)

    by : (a b : ℤ) → unsigned_abs a ≤ 2046 → unsigned_abs b ≤ 2046 → unsigned_abs ((s.b.x *ℤ z.w -ℤ z.x) *ℤ a +ℤ (z.x -ℤ s.a.x *ℤ z.w) *ℤ b) ≤ 2046 * unsigned_abs ((s.b.x *ℤ z.w -ℤ z.x) *ℤ pos 1 +ℤ (z.x -ℤ s.a.x *ℤ z.w) *ℤ pos 1)
    by a b ha hb = omega (arith, ap unsigned_abs total, mean left past a b hl hp ha hb)

-- ---- the middle of two heights
pub middle_bounded : (p q r s : ℤ) → pos 1 ≤ℤ q → pos 1 ≤ℤ s → unsigned_abs q ≤ 2 ^ 37 → unsigned_abs s ≤ 2 ^ 37 → unsigned_abs p ≤ 2046 * unsigned_abs q → unsigned_abs r ≤ 2046 * unsigned_abs s
    → (pos 1 ≤ℤ (pos 2 *ℤ (q *ℤ s))) × (unsigned_abs (pos 2 *ℤ (q *ℤ s)) ≤ 2 ^ 75) × (unsigned_abs (p *ℤ s +ℤ r *ℤ q) ≤ 2046 * unsigned_abs (pos 2 *ℤ (q *ℤ s)))
middle_bounded p q r s hq hs bq bs hp hr =
    let w : unsigned_abs (pos 2 *ℤ (q *ℤ s)) ≡ 2 * (unsigned_abs q * unsigned_abs s) = omega (arith, twice (q *ℤ s), unsigned_abs-mul q s) in (
      at_least_one (q *ℤ s) (mul_pos {a = q} {b = s} (omega (arith, linear, hq)) (omega (arith, linear, hs))),
      omega (arith, w, product_at_most (unsigned_abs q) (unsigned_abs s) (2 ^ 37) (2 ^ 37) bq bs),
      mixed (unsigned_abs p) (unsigned_abs r) (unsigned_abs q) (unsigned_abs s) _ _ hp hr (two_products p s r q) w,
    )

-- the point of the line at the height p / q
abbrev pub on_line_by : Fraction → ℤ → ℤ → Vector
on_line_by l p q = record { x = l.num *ℤ q; y = l.den *ℤ p; w = l.den *ℤ q }

pub between_bounded : (l : Fraction) (p q : ℤ) → IsLine l → pos 1 ≤ℤ q → unsigned_abs q ≤ 2 ^ 75 → unsigned_abs p ≤ 2046 * unsigned_abs q → IsBounded (2 ^ 100) (on_line_by l p q)
between_bounded l p q hl hq bq hp = record {
  weight = heavy;
  weight_bounded = light;
  x_bounded = wide_x;
  y_bounded = wide_y;
}
  where
    heavy : pos 1 ≤ℤ (l.den *ℤ q)
    heavy = let m = mul_pos {a = l.den} {b = q} (omega (arith, linear, hl.ratio.positive)) (omega (arith, linear, hq)) in omega (arith, linear, m)

    light : unsigned_abs (l.den *ℤ q) ≤ 2 ^ 100
    light = omega (arith, unsigned_abs-mul l.den q, product_at_most (unsigned_abs l.den) (unsigned_abs q) (2 ^ 25) (2 ^ 75) (omega (arith, hl.bounded)) bq)

    wide_x : unsigned_abs (l.num *ℤ q) ≤ 2046 * unsigned_abs (l.den *ℤ q)
    wide_x = omega (arith, unsigned_abs-mul l.num q, unsigned_abs-mul l.den q, product_at_most (unsigned_abs l.num) (unsigned_abs q) (2046 * unsigned_abs l.den) (unsigned_abs q) hl.ratio.num_bounded (omega arith))

    wide_y : unsigned_abs (l.den *ℤ p) ≤ 2046 * unsigned_abs (l.den *ℤ q)
    wide_y = omega (arith, unsigned_abs-mul l.den p, unsigned_abs-mul l.den q, product_at_most (unsigned_abs l.den) (unsigned_abs p) (unsigned_abs l.den) (2046 * unsigned_abs q) (omega arith) hp)

pub point_bounded : (l f : Fraction) → IsLine l → IsHeight f → IsBounded (2 ^ 100) (point_at l f)
point_bounded l f hl hf = subst (λ y. IsBounded (2 ^ 100) (record { x = l.num *ℤ f.den; y = y; w = l.den *ℤ f.den })) (mul_comm l.den f.num) (between_bounded l f.num f.den hl hf.ratio.positive (omega (arith, hf.bounded)) hf.ratio.num_bounded)

pub between_same : (l m n : Fraction) → Same (on_line_by l (m.num *ℤ n.den +ℤ n.num *ℤ m.den) (pos 2 *ℤ (m.den *ℤ n.den))) (halfway (point_at l m) (point_at l n))
between_same l m n = (
  ring at (on.x ⊗ half.w) (half.x ⊗ on.w) tt,
  ring at (on.y ⊗ half.w) (half.y ⊗ on.w) tt,
)
  where
    at : List ℤ
    at = env [] (record { x = l.num; y = pos 0; w = l.den } ∷ record { x = m.num; y = pos 0; w = m.den } ∷ record { x = n.num; y = pos 0; w = n.den } ∷ [])

    two : Expr
    two = con (pos 2)

    on : F.Vec
    on = record { x = A.x ⊗ (two ⊗ (B.w ⊗ C.w)); y = A.w ⊗ (B.x ⊗ C.w ⊕ C.x ⊗ B.w); w = A.w ⊗ (two ⊗ (B.w ⊗ C.w)) }

    half : F.Vec
    half = record { x = (A.x ⊗ B.w) ⊗ (A.w ⊗ C.w) ⊕ (A.x ⊗ C.w) ⊗ (A.w ⊗ B.w); y = (B.x ⊗ A.w) ⊗ (A.w ⊗ C.w) ⊕ (C.x ⊗ A.w) ⊗ (A.w ⊗ B.w); w = two ⊗ ((A.w ⊗ B.w) ⊗ (A.w ⊗ C.w)) }
