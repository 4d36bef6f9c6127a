-- The three sums are the foot.
use Rattle.std.proofs.Common.{ℕ, ◌≡◌, ◌+◌, ◌*◌, ◌≤◌, ◌+ℤ◌, ◌-ℤ◌, ◌*ℤ◌, ◌^◌, pos, ap, ap₂, ◌∙◌, sym, subst, arith}
use Rattle.std.specs.Int.RustNames.{unsigned_abs}
use Rattle.plan_exact.specs.Vectors.{Vector}
use Rattle.plan_exact.proofs.Laws.{linear}
use Rattle.plan_exact.proofs.Sizes.{product_at_most}
use Rattle.plan_grid.specs.Bounds.{IsBounded}
use Rattle.plan_slab.proofs.Bounded.{foot_by, foot_is, foot_bounded}
use Rattle.plan_slab.proofs.feet.foot.Goals as goal
use Rattle.plan_slab.proofs.feet.foot.Goals.{After-plus-3}

-- ---- sizes
-- of a number times a weight, and of its difference from the x of a point of that weight
scaled : {a z t x : ℕ} → a ≤ 2046 → z ≤ 2 ^ 26 → x ≤ 2046 * z → t ≤ a * z → t + x ≤ 2046 * 2 ^ 27
scaled {a} {z} ha hz hx ht = omega (arith, product_at_most a z 2046 (2 ^ 26) ha hz, hx, ht)

-- of that difference times a number
sized : {d a : ℕ} → d ≤ 2046 * 2 ^ 27 → a ≤ 2046 → d * a ≤ 2046 * 2046 * 2 ^ 27
sized {d} {a} hd ha = product_at_most d a (2046 * 2 ^ 27) 2046 hd ha

pub x_of-requires : goal.x_of-requires
x_of-requires c = c.requires.over.b_bounded

pub times-requires : goal.times-requires
times-requires c = let z = subst (IsBounded (2 ^ 26)) (sym c.z.view_is) c.requires.bounded in omega (arith, product_at_most _ _ _ _ c.x_of.ensures.size z.weight_bounded)

pub minus-left-requires : goal.minus-left-requires
minus-left-requires c = let z = subst (IsBounded (2 ^ 26)) (sym c.z.view_is) c.requires.bounded in omega (arith, scaled c.x_of.ensures.size z.weight_bounded z.x_bounded c.times.ensures.size)

pub x_of-requires-2 : goal.x_of-requires-2
x_of-requires-2 c = c.requires.over.a_bounded

pub times-requires-2 : goal.times-requires-2
times-requires-2 c = let z = subst (IsBounded (2 ^ 26)) (sym c.z.view_is) c.requires.bounded in omega (arith, product_at_most _ _ _ _ c.x_of-2.ensures.size z.weight_bounded)

pub minus-past-requires : goal.minus-past-requires
minus-past-requires c = let z = subst (IsBounded (2 ^ 26)) (sym c.z.view_is) c.requires.bounded in omega (arith, scaled c.x_of-2.ensures.size z.weight_bounded z.x_bounded c.times-2.ensures.size)

pub x_of-requires-3 : goal.x_of-requires-3
x_of-requires-3 c = c.requires.over.a_bounded

pub x_of-requires-4 : goal.x_of-requires-4
x_of-requires-4 c = c.requires.over.b_bounded

pub y_of-requires : goal.y_of-requires
y_of-requires c = c.requires.over.a_bounded

pub y_of-requires-2 : goal.y_of-requires-2
y_of-requires-2 c = c.requires.over.b_bounded

pub times-requires-3 : goal.times-requires-3
times-requires-3 c =
    let z = subst (IsBounded (2 ^ 26)) (sym c.z.view_is) c.requires.bounded in
    let left : unsigned_abs c.minus-left.result ≤ 2046 * 2 ^ 27 = omega (arith, scaled c.x_of.ensures.size z.weight_bounded z.x_bounded c.times.ensures.size, c.minus-left.ensures.size) in
    omega (arith, sized left c.x_of-3.ensures.size)

pub times-requires-4 : goal.times-requires-4
times-requires-4 c =
    let z = subst (IsBounded (2 ^ 26)) (sym c.z.view_is) c.requires.bounded in
    let past : unsigned_abs c.minus-past.result ≤ 2046 * 2 ^ 27 = omega (arith, scaled c.x_of-2.ensures.size z.weight_bounded z.x_bounded c.times-2.ensures.size, c.minus-past.ensures.size) in
    omega (arith, sized past c.x_of-4.ensures.size)

pub plus-requires : goal.plus-requires
plus-requires c =
    let z = subst (IsBounded (2 ^ 26)) (sym c.z.view_is) c.requires.bounded in
    let left : unsigned_abs c.minus-left.result ≤ 2046 * 2 ^ 27 = omega (arith, scaled c.x_of.ensures.size z.weight_bounded z.x_bounded c.times.ensures.size, c.minus-left.ensures.size) in
    let past : unsigned_abs c.minus-past.result ≤ 2046 * 2 ^ 27 = omega (arith, scaled c.x_of-2.ensures.size z.weight_bounded z.x_bounded c.times-2.ensures.size, c.minus-past.ensures.size) in
    omega (arith, sized left c.x_of-3.ensures.size, sized past c.x_of-4.ensures.size, c.times-3.ensures.size, c.times-4.ensures.size)

pub times-requires-5 : goal.times-requires-5
times-requires-5 c =
    let z = subst (IsBounded (2 ^ 26)) (sym c.z.view_is) c.requires.bounded in
    let left : unsigned_abs c.minus-left.result ≤ 2046 * 2 ^ 27 = omega (arith, scaled c.x_of.ensures.size z.weight_bounded z.x_bounded c.times.ensures.size, c.minus-left.ensures.size) in
    omega (arith, sized left c.y_of.ensures.size)

pub times-requires-6 : goal.times-requires-6
times-requires-6 c =
    let z = subst (IsBounded (2 ^ 26)) (sym c.z.view_is) c.requires.bounded in
    let past : unsigned_abs c.minus-past.result ≤ 2046 * 2 ^ 27 = omega (arith, scaled c.x_of-2.ensures.size z.weight_bounded z.x_bounded c.times-2.ensures.size, c.minus-past.ensures.size) in
    omega (arith, sized past c.y_of-2.ensures.size)

pub plus-requires-2 : goal.plus-requires-2
plus-requires-2 c =
    let z = subst (IsBounded (2 ^ 26)) (sym c.z.view_is) c.requires.bounded in
    let left : unsigned_abs c.minus-left.result ≤ 2046 * 2 ^ 27 = omega (arith, scaled c.x_of.ensures.size z.weight_bounded z.x_bounded c.times.ensures.size, c.minus-left.ensures.size) in
    let past : unsigned_abs c.minus-past.result ≤ 2046 * 2 ^ 27 = omega (arith, scaled c.x_of-2.ensures.size z.weight_bounded z.x_bounded c.times-2.ensures.size, c.minus-past.ensures.size) in
    omega (arith, sized left c.y_of.ensures.size, sized past c.y_of-2.ensures.size, c.times-5.ensures.size, c.times-6.ensures.size)

pub plus-requires-3 : goal.plus-requires-3
plus-requires-3 c =
    let z = subst (IsBounded (2 ^ 26)) (sym c.z.view_is) c.requires.bounded in
    let left : unsigned_abs c.minus-left.result ≤ 2046 * 2 ^ 27 = omega (arith, scaled c.x_of.ensures.size z.weight_bounded z.x_bounded c.times.ensures.size, c.minus-left.ensures.size) in
    let past : unsigned_abs c.minus-past.result ≤ 2046 * 2 ^ 27 = omega (arith, scaled c.x_of-2.ensures.size z.weight_bounded z.x_bounded c.times-2.ensures.size, c.minus-past.ensures.size) in
    omega (arith, left, past)

-- ---- the values
computed : (c : After-plus-3) → record { x = c.plus.result; y = c.plus-2.result; w = c.plus-3.result } ≡ foot_by (c.args.s.b.x *ℤ c.args.z.w -ℤ c.args.z.x) (c.args.z.x -ℤ c.args.s.a.x *ℤ c.args.z.w) c.args.s
computed c = λ i. record { x = x i; y = y i; w = w i }
  where
    zx : c.z.inside.x ≡ c.args.z.x
    zx = ap (λ (v : Vector). v.x) c.z.view_is

    zw : c.z.inside.w ≡ c.args.z.w
    zw = ap (λ (v : Vector). v.w) c.z.view_is

    left : c.minus-left.result ≡ c.args.s.b.x *ℤ c.args.z.w -ℤ c.args.z.x
    left = c.minus-left.ensures.value ∙ ap₂ (λ p q. p -ℤ q) (c.times.ensures.value ∙ ap₂ (λ p q. p *ℤ q) c.x_of.ensures.value zw) zx

    past : c.minus-past.result ≡ c.args.z.x -ℤ c.args.s.a.x *ℤ c.args.z.w
    past = c.minus-past.ensures.value ∙ ap₂ (λ p q. p -ℤ q) zx (c.times-2.ensures.value ∙ ap₂ (λ p q. p *ℤ q) c.x_of-2.ensures.value zw)

    x : c.plus.result ≡ (c.args.s.b.x *ℤ c.args.z.w -ℤ c.args.z.x) *ℤ c.args.s.a.x +ℤ (c.args.z.x -ℤ c.args.s.a.x *ℤ c.args.z.w) *ℤ c.args.s.b.x
    x = c.plus.ensures.value ∙ ap₂ (λ p q. p +ℤ q) (c.times-3.ensures.value ∙ ap₂ (λ p q. p *ℤ q) left c.x_of-3.ensures.value) (c.times-4.ensures.value ∙ ap₂ (λ p q. p *ℤ q) past c.x_of-4.ensures.value)

    y : c.plus-2.result ≡ (c.args.s.b.x *ℤ c.args.z.w -ℤ c.args.z.x) *ℤ c.args.s.a.y +ℤ (c.args.z.x -ℤ c.args.s.a.x *ℤ c.args.z.w) *ℤ c.args.s.b.y
    y = c.plus-2.ensures.value ∙ ap₂ (λ p q. p +ℤ q) (c.times-5.ensures.value ∙ ap₂ (λ p q. p *ℤ q) left c.y_of.ensures.value) (c.times-6.ensures.value ∙ ap₂ (λ p q. p *ℤ q) past c.y_of-2.ensures.value)

    w : c.plus-3.result ≡ (c.args.s.b.x *ℤ c.args.z.w -ℤ c.args.z.x) *ℤ pos 1 +ℤ (c.args.z.x -ℤ c.args.s.a.x *ℤ c.args.z.w) *ℤ pos 1
    w = omega (arith, linear, c.plus-3.ensures.value, left, past)

pub returns-clause-value : goal.returns-clause-value
returns-clause-value c = computed c ∙ foot_is c.args.s c.args.z

pub returns-clause-bounded : goal.returns-clause-bounded
returns-clause-bounded c = subst (IsBounded (2 ^ 38)) (sym (computed c)) (foot_bounded c.args.s c.args.z c.requires.over c.requires.bounded)
