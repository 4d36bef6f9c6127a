-- The two products are apart by the turn.
use Rattle.std.proofs.Common.{ℕ, ◌+◌, ◌*◌, ◌<◌, ◌≤◌, ◌^◌, ◌-ℤ◌, ◌*ℤ◌, ◌∙◌, ap, ap₂, subst, sym, arith}
use Rattle.plan_exact.specs.Vectors.{Vector}
use Rattle.plan_exact.proofs.Laws.{linear}
use Rattle.plan_exact.proofs.Sizes.{product_at_most}
use Rattle.plan_grid.specs.Bounds.{IsBounded}
use Rattle.plan_grid.proofs.Turns.{turn_beside}
use Rattle.plan_convex.proofs.triple.Triple.is_right.Goals as goal
use Rattle.plan_convex.proofs.triple.Triple.is_right.Goals.{After-self}

-- ---- how large the numbers are
step_fits : (a b : ℕ) → a ≤ 2046 → b ≤ 2046 → a + b < 2 ^ 127
step_fits a b h k = omega arith

scaled_fits : (a w : ℕ) → a ≤ 2046 → w ≤ 2 ^ 100 → a * w < 2 ^ 127
scaled_fits a w h k = omega (arith, product_at_most a w 2046 (2 ^ 100) h k)

-- the way to the point, with the weight
away : (x t a w : ℕ) → x ≤ 2046 * w → t ≤ a * w → a ≤ 2046 → w ≤ 2 ^ 100 → x + t ≤ 2 ^ 112
away x t a w far scaled h k = omega (arith, product_at_most a w 2046 (2 ^ 100) h k)

away_fits : (n : ℕ) → n ≤ 2 ^ 112 → n < 2 ^ 127
away_fits n h = omega arith

product_fits : (r a b u n : ℕ) → r ≤ a + b → a ≤ 2046 → b ≤ 2046 → u ≤ n → n ≤ 2 ^ 112 → r * u < 2 ^ 127
product_fits r a b u n run h k up far =
    let most : r ≤ 4092 = omega arith in
    let long : u ≤ 2 ^ 112 = omega arith in
    omega (arith, product_at_most r u 4092 (2 ^ 112) most long)

bounded : (c : After-self) → IsBounded (2 ^ 100) (record { x = c.self.inside.x; y = c.self.inside.y; w = c.self.inside.w })
bounded c = subst (IsBounded (2 ^ 100)) (sym c.self.view_is) c.requires.bounded

pub minus-run-requires : goal.minus-run-requires
minus-run-requires c = step_fits _ _ c.x_of.ensures.size c.x_of-2.ensures.size

pub minus-rise-requires : goal.minus-rise-requires
minus-rise-requires c = step_fits _ _ c.y_of.ensures.size c.y_of-2.ensures.size

pub times-requires : goal.times-requires
times-requires c =
    let z = bounded (goal.at.times-requires c).After-self in
    scaled_fits _ _ c.x_of-3.ensures.size z.weight_bounded

pub minus-right-requires : goal.minus-right-requires
minus-right-requires c =
    let z = bounded (goal.at.minus-right-requires c).After-self in
    away_fits _ (away _ _ _ _ z.x_bounded c.times.ensures.size c.x_of-3.ensures.size z.weight_bounded)

pub times-requires-2 : goal.times-requires-2
times-requires-2 c =
    let z = bounded (goal.at.times-requires-2 c).After-self in
    scaled_fits _ _ c.y_of-3.ensures.size z.weight_bounded

pub minus-up-requires : goal.minus-up-requires
minus-up-requires c =
    let z = bounded (goal.at.minus-up-requires c).After-self in
    away_fits _ (away _ _ _ _ z.y_bounded c.times-2.ensures.size c.y_of-3.ensures.size z.weight_bounded)

pub times-requires-3 : goal.times-requires-3
times-requires-3 c =
    let z = bounded (goal.at.times-requires-3 c).After-self in
    product_fits _ _ _ _ _ c.minus-run.ensures.size c.x_of.ensures.size c.x_of-2.ensures.size c.minus-up.ensures.size (away _ _ _ _ z.y_bounded c.times-2.ensures.size c.y_of-3.ensures.size z.weight_bounded)

pub times-requires-4 : goal.times-requires-4
times-requires-4 c =
    let z = bounded (goal.at.times-requires-4 c).After-self in
    product_fits _ _ _ _ _ c.minus-rise.ensures.size c.y_of.ensures.size c.y_of-2.ensures.size c.minus-right.ensures.size (away _ _ _ _ z.x_bounded c.times.ensures.size c.x_of-3.ensures.size z.weight_bounded)

pub returns : goal.returns
returns c =
    let a = c.args.a in
    let b = c.args.b in
    let z = c.args.self in
    let x = ap (λ (v : Vector). v.x) c.self.view_is in
    let y = ap (λ (v : Vector). v.y) c.self.view_is in
    let w = ap (λ (v : Vector). v.w) c.self.view_is in
    let run = c.minus-run.ensures.value ∙ ap₂ (λ p q. p -ℤ q) c.x_of.ensures.value c.x_of-2.ensures.value in
    let rise = c.minus-rise.ensures.value ∙ ap₂ (λ p q. p -ℤ q) c.y_of.ensures.value c.y_of-2.ensures.value in
    let right = c.minus-right.ensures.value ∙ ap₂ (λ p q. p -ℤ q) x (c.times.ensures.value ∙ ap₂ (λ p q. p *ℤ q) c.x_of-3.ensures.value w) in
    let up = c.minus-up.ensures.value ∙ ap₂ (λ p q. p -ℤ q) y (c.times-2.ensures.value ∙ ap₂ (λ p q. p *ℤ q) c.y_of-3.ensures.value w) in
    let first = c.times-3.ensures.value ∙ ap₂ (λ p q. p *ℤ q) run up in
    let second = c.times-4.ensures.value ∙ ap₂ (λ p q. p *ℤ q) rise right in
    let e = turn_beside a b z in
    let t = c.is_below.ensures in
    (λ yes. let k = t.0 yes in omega (arith, linear, e, first, second, k), λ no. t.1 (omega (arith, linear, e, first, second, no)))
