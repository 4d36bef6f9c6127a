-- Corners of a set of points in the plane: a spot from which all others are strictly to the left of some direction. Three of them are never in line, for each would have to be at an end.
use Rattle.std.proofs.Common.{◌≡◌, ◌⊎◌, inl, inr, ℤ, pos, ◌+ℤ◌, ◌-ℤ◌, ◌*ℤ◌, ◌≤ℤ◌, ◌<ℤ◌, sym, ap, [], ◌∷◌, arith}
use Rattle.plan_exact.specs.Expr.{var, ◌⊕◌, ◌⊖◌, ◌⊗◌}
use Rattle.plan_exact.specs.Sign.{Sign, is_negative, is_zero, is_positive}
use Rattle.plan_exact.proofs.Laws.{linear}
use Rattle.plan_exact.proofs.Ring.{ring}
use Rattle.plan_exact.proofs.Signs.{sign_of, mul_pos, mul_neg_neg, mul_pos_neg, mul_of_zero, zero_of_mul_left}
use Rattle.plan_spec.specs.Vector.{Vector, IsPoint}
use Rattle.plan_grid.specs.declared.spot.Spot.{Spot}
use Rattle.plan_grid.specs.Spot.{spot_seen, plus, way, cross}
use Rattle.plan_grid.proofs.Spots.{spot_path}
use Rattle.plan_convex.proofs.Crosses.{two_crosses, cross_way_back, cross_way_on, cross_plus, no_direction}
use Rattle.plan_grid.proofs.Turns.{beside, beside_spot}

-- a way that is left of some direction leads to another spot
pub apart_of : (d v v' : Spot) → pos 0 <ℤ cross d (way v v') → ¬ (v ≡ v')
apart_of d v v' left same =
    let e = ap (λ (s : Spot). s.x) same in let f = ap (λ (s : Spot). s.y) same in
    let x : v'.x -ℤ v.x ≡ pos 0 = omega (arith, linear) in
    let y : v'.y -ℤ v.y ≡ pos 0 = omega (arith, linear) in
    omega (arith, linear, mul_of_zero d.x (v'.y -ℤ v.y) y, mul_of_zero d.y (v'.x -ℤ v.x) x)

-- all points of S are on or left of the line through v in the direction d
abbrev pub Borders : (Vector → Type 0) → Spot → Spot → Type 0
Borders S v d = (x : Vector) → IsPoint x → S x → pos 0 ≤ℤ beside v d x

-- all spots of S but v itself are left of the line through v in the direction `inward`
pub record IsExtreme (S : Vector → Type 0) (v : Spot) : Type 0 where
  pub inward : Spot
  pub others : (u : Spot) → S (spot_seen u) → (u ≡ v) ⊎ (pos 0 <ℤ cross inward (way v u))

pub record IsCorner (S : Vector → Type 0) (v : Spot) : Type 0 where
  pub belongs : S (spot_seen v)
  pub extreme : IsExtreme S v

pub borders_spot : (S : Vector → Type 0) (v d u : Spot) → Borders S v d → S (spot_seen u) → pos 0 ≤ℤ cross d (way v u)
borders_spot S v d u h i =
    let k : pos 0 ≤ℤ beside v d (spot_seen u) = h (spot_seen u) (omega (arith, linear)) i in
    omega (arith, linear, beside_spot v d u)

-- where two border lines meet that are not aligned
pub extreme_between : (S : Vector → Type 0) (v d e : Spot) → Borders S v d → Borders S v e → pos 0 <ℤ cross d e → IsExtreme S v
extreme_between S v d e hd he turns = record { inward = plus d e; others = others }
  where
    others : (u : Spot) → S (spot_seen u) → (u ≡ v) ⊎ (pos 0 <ℤ cross (plus d e) (way v u))
    others u i = by (sign_of (cross (plus d e) (way v u)))
      where
        left_of_d : pos 0 ≤ℤ cross d (way v u)
        left_of_d = borders_spot S v d u hd i

        left_of_e : pos 0 ≤ℤ cross e (way v u)
        left_of_e = borders_spot S v e u he i

        both : cross (plus d e) (way v u) ≡ cross d (way v u) +ℤ cross e (way v u)
        both = cross_plus d e (way v u)

        by : Sign (cross (plus d e) (way v u)) → (u ≡ v) ⊎ (pos 0 <ℤ cross (plus d e) (way v u))
        by (is_positive p) = inr p
        by (is_negative n) = absurd (omega (arith, linear, both, left_of_d, left_of_e))
        by (is_zero z) =
            let n = no_direction d e (way v u) turns (omega (arith, linear, both, left_of_d, left_of_e)) (omega (arith, linear, both, left_of_d, left_of_e)) in
            inl (spot_path (omega (arith, linear, n.0)) (omega (arith, linear, n.1)))

-- of numbers a, b > 0 that are in the proportions d to c and h to g: if c is negative and d above it, then a is above b; if g is negative and h above it, then b is above a
no_proportion : (a b c d g h : ℤ) → pos 0 <ℤ a → pos 0 <ℤ b → c <ℤ pos 0 → c <ℤ d → g <ℤ pos 0 → g <ℤ h → a *ℤ d ≡ b *ℤ c → a *ℤ g ≡ b *ℤ h → ⊥
no_proportion a b c d g h ha hb hc cd hg gh e1 e2 = by (sign_of (a -ℤ b))
  where
    up : pos 0 <ℤ (d -ℤ c)
    up = omega (arith, linear)

    over : pos 0 <ℤ (h -ℤ g)
    over = omega (arith, linear)

    first : (a -ℤ b) *ℤ c ≡ a *ℤ d -ℤ b *ℤ c -ℤ a *ℤ (d -ℤ c)
    first = ring (a ∷ b ∷ c ∷ d ∷ []) ((var 0 ⊖ var 1) ⊗ var 2) (var 0 ⊗ var 3 ⊖ var 1 ⊗ var 2 ⊖ var 0 ⊗ (var 3 ⊖ var 2)) tt

    second : (a -ℤ b) *ℤ g ≡ a *ℤ g -ℤ b *ℤ h +ℤ b *ℤ (h -ℤ g)
    second = ring (a ∷ b ∷ g ∷ h ∷ []) ((var 0 ⊖ var 1) ⊗ var 2) (var 0 ⊗ var 2 ⊖ var 1 ⊗ var 3 ⊕ var 1 ⊗ (var 3 ⊖ var 2)) tt

    by : Sign (a -ℤ b) → ⊥
    by (is_positive p) = omega (arith, linear, second, mul_pos hb over, mul_pos_neg p hg)
    by (is_zero z) = omega (arith, linear, second, mul_pos hb over, zero_of_mul_left (a -ℤ b) g z)
    by (is_negative n) = omega (arith, linear, first, mul_pos ha up, mul_neg_neg n hc)

-- three spots in line, each strictly beside the other two
not_in_line : (v v' u a b c : Spot) → cross (way v v') (way v u) ≡ pos 0 → pos 0 <ℤ cross a (way v v') → pos 0 <ℤ cross a (way v u) → pos 0 <ℤ cross b (way v' v) → pos 0 <ℤ cross b (way v' u) → pos 0 <ℤ cross c (way u v) → pos 0 <ℤ cross c (way u v') → ⊥
not_in_line v v' u a b c line av' au bv bu cv cv' =
    no_proportion (cross a (way v v')) (cross a (way v u)) (cross b (way v v')) (cross b (way v u)) (cross c (way v u)) (cross c (way v v')) av' au
    (omega (arith, linear, cross_way_back b v v'))
    (omega (arith, linear, cross_way_on b v v' u))
    (omega (arith, linear, cross_way_back c v u))
    (omega (arith, linear, cross_way_on c v u v'))
    (proportion a b (way v v') (way v u) line)
    (proportion a c (way v v') (way v u) line)
  where
    proportion : (a b w t : Spot) → cross w t ≡ pos 0 → cross a w *ℤ cross b t ≡ cross a t *ℤ cross b w
    proportion a b w t e = omega (arith, linear, two_crosses a b w t, mul_of_zero (cross a b) (cross w t) e)

-- of three corners that all are on one side of the line through two, the third is strictly so, or one of the two
pub corner_left : (S : Vector → Type 0) (v v' u : Spot) → ¬ (v ≡ v') → IsCorner S v → IsCorner S v' → IsCorner S u → pos 0 ≤ℤ cross (way v v') (way v u) → (u ≡ v) ⊎ ((u ≡ v') ⊎ (pos 0 <ℤ cross (way v v') (way v u)))
corner_left S v v' u apart hv hv' hu side = by (sign_of (cross (way v v') (way v u)))
  where
    a : Spot
    a = hv.extreme.inward

    b : Spot
    b = hv'.extreme.inward

    c : Spot
    c = hu.extreme.inward

    by_line : cross (way v v') (way v u) ≡ pos 0 → (v' ≡ v) ⊎ (pos 0 <ℤ cross a (way v v')) → (u ≡ v) ⊎ (pos 0 <ℤ cross a (way v u)) → (v ≡ v') ⊎ (pos 0 <ℤ cross b (way v' v)) → (u ≡ v') ⊎ (pos 0 <ℤ cross b (way v' u)) → (v ≡ u) ⊎ (pos 0 <ℤ cross c (way u v)) → (v' ≡ u) ⊎ (pos 0 <ℤ cross c (way u v')) → (u ≡ v) ⊎ ((u ≡ v') ⊎ (pos 0 <ℤ cross (way v v') (way v u)))
    by_line z (inl s) h2 h3 h4 h5 h6 = absurd (apart (sym s))
    by_line z (inr p1) (inl s) h3 h4 h5 h6 = inl s
    by_line z (inr p1) (inr p2) (inl s) h4 h5 h6 = absurd (apart s)
    by_line z (inr p1) (inr p2) (inr p3) (inl s) h5 h6 = inr (inl s)
    by_line z (inr p1) (inr p2) (inr p3) (inr p4) (inl s) h6 = inl (sym s)
    by_line z (inr p1) (inr p2) (inr p3) (inr p4) (inr p5) (inl s) = inr (inl (sym s))
    by_line z (inr p1) (inr p2) (inr p3) (inr p4) (inr p5) (inr p6) = absurd (not_in_line v v' u a b c z p1 p2 p3 p4 p5 p6)

    by : Sign (cross (way v v') (way v u)) → (u ≡ v) ⊎ ((u ≡ v') ⊎ (pos 0 <ℤ cross (way v v') (way v u)))
    by (is_positive p) = inr (inr p)
    by (is_negative n) = absurd (omega (arith, linear))
    by (is_zero z) = by_line z (hv.extreme.others v' hv'.belongs) (hv.extreme.others u hu.belongs) (hv'.extreme.others v hv.belongs) (hv'.extreme.others u hu.belongs) (hu.extreme.others v hv.belongs) (hu.extreme.others v' hv'.belongs)
