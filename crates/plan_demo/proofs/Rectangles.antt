-- A rectangle is simple: neighbouring sides meet in their corner, and opposite ones nowhere.
use Rattle.std.proofs.Common.{◌≡◌, ◌⊎◌, inl, inr, ℕ, zero, suc, ◌+◌, length, ◌<◌, ℤ, pos, ◌*ℤ◌, ◌<ℤ◌, List, [], ◌∷◌, refl, arith}
use Rattle.std.proofs.lemmas.Int.{ints}
use Rattle.plan_exact.proofs.Laws.{linear}
use Rattle.plan_exact.proofs.Signs.{mul_lt_mul}
use Rattle.plan_spec.specs.Segment.{On, segment}
use Rattle.plan_spec.specs.SimplePolygon.{IsSimple, ShareAnother}
use Rattle.plan_spec.specs.Vector.{Vector, LeX, LeY, spot}
use Rattle.plan_demo.specs.Draws.{draw, after}
use Rattle.plan_demo.specs.Demo.{rectangle, robot}

-- ---- sides
level : (p q y : ℤ) (z : Vector) → On (segment (spot p y) (spot q y)) z → z.y *ℤ pos 1 ≡ y *ℤ z.w
level p q y z on = by on.within_y
  where
    by : (LeY (spot p y) z × LeY z (spot q y)) ⊎ (LeY (spot q y) z × LeY z (spot p y)) → z.y *ℤ pos 1 ≡ y *ℤ z.w
    by (inl h) = let low = h.0 in let high = h.1 in omega (arith, linear)
    by (inr h) = let low = h.0 in let high = h.1 in omega (arith, linear)

upright : (x p q : ℤ) (z : Vector) → On (segment (spot x p) (spot x q)) z → z.x *ℤ pos 1 ≡ x *ℤ z.w
upright x p q z on = by on.within_x
  where
    by : (LeX (spot x p) z × LeX z (spot x q)) ⊎ (LeX (spot x q) z × LeX z (spot x p)) → z.x *ℤ pos 1 ≡ x *ℤ z.w
    by (inl h) = let low = h.0 in let high = h.1 in omega (arith, linear)
    by (inr h) = let low = h.0 in let high = h.1 in omega (arith, linear)

apart : (a b w c : ℤ) → a <ℤ b → pos 0 <ℤ w → c ≡ a *ℤ w → ¬ (c ≡ b *ℤ w)
apart a b w c less weight e f = let over = mul_lt_mul w weight less in omega (arith, linear)

module _ (left right bottom top : ℤ) (wide : left <ℤ right) (tall : bottom <ℤ top) where
  abbrev corners : List Vector
  corners = spot left bottom ∷ spot right bottom ∷ spot right top ∷ spot left top ∷ []

  none : (i j : ℕ) → i < j → j < 4 → ¬ (ShareAnother corners i j)
  none zero zero less within h = omega arith
  none zero (suc zero) less within (z, is, on, also, other) = other (inl (refl, (upright right bottom top z also, level left right bottom z on)))
  none zero (suc (suc zero)) less within (z, is, on, also, other) = apart bottom top z.w (z.y *ℤ pos 1) tall is (level left right bottom z on) (level right left top z also)
  none zero (suc (suc (suc zero))) less within (z, is, on, also, other) = other (inr (refl, refl, (upright left top bottom z also, level left right bottom z on)))
  none (suc zero) zero less within h = omega arith
  none (suc zero) (suc zero) less within h = omega arith
  none (suc zero) (suc (suc zero)) less within (z, is, on, also, other) = other (inl (refl, (upright right bottom top z on, level right left top z also)))
  none (suc zero) (suc (suc (suc zero))) less within (z, is, on, also, other) = apart left right z.w (z.x *ℤ pos 1) wide is (upright left top bottom z also) (upright right bottom top z on)
  none (suc (suc zero)) (suc (suc (suc zero))) less within (z, is, on, also, other) = other (inl (refl, (upright left top bottom z also, level right left top z on)))
  none (suc (suc i)) zero less within h = omega arith
  none (suc (suc i)) (suc zero) less within h = omega arith
  none (suc (suc i)) (suc (suc zero)) less within h = omega arith
  none (suc (suc (suc i))) (suc (suc (suc zero))) less within h = omega arith
  none i (suc (suc (suc (suc j)))) less within h = omega arith

  pub is_simple : IsSimple corners
  is_simple i j less within (inl h) = none i j less within h
  is_simple i j less within (inr h) = h.2

-- ---- those that are drawn, and the robot
pub drawn_is_simple : (s : ℕ) → IsSimple (rectangle s)
unfolding rectangle
drawn_is_simple s =
    let x = 20 + draw 900 s in
    let y = 20 + draw 900 (after 1 s) in
    let w = 10 + draw 60 (after 2 s) in
    let h = 10 + draw 60 (after 3 s) in
    is_simple (pos x) (pos (x + w)) (pos y) (pos (y + h)) (omega (arith, ints)) (omega (arith, ints))

pub four_drawn : (s : ℕ) → length (rectangle s) ≡ 4
unfolding rectangle
four_drawn s = refl

pub robot_is_simple : IsSimple robot
robot_is_simple = is_simple (pos 0) (pos 8) (pos 0) (pos 8) (omega (arith, ints)) (omega (arith, ints))
