-- A point is in the polygon of three vertices that turn left, by parity or on an edge, exactly where it is on or left of the three sides.
use Rattle.std.proofs.Common.{ℤ, Bool, ◌≤ℤ◌, ◌<ℤ◌, arith, ◌≡◌, pos, true, false, ◌&&◌, not, ap₂, ◌∙◌, refl, [], ◌∷◌, ap, ◌*ℤ◌, ◌⊎◌, inl, inr, sym, All, subst}
use Rattle.std.proofs.lemmas.Bool.{true≢false}
use Rattle.std.proofs.lemmas.List.Elements.{All-nil, All-cons}
use Rattle.plan_exact.specs.Sign.{Sign, is_negative, is_zero, is_positive}
use Rattle.plan_exact.proofs.Laws.{linear}
use Rattle.plan_exact.proofs.Signs.{zero_of_mul, mul_pos, mul_nonneg_nonpos, le_of_lt, zeros, mul_nonpos, mul_neg_pos, sign_of, mul_nonpos_nonneg, le_or_lt}
use Rattle.plan_exact.proofs.Vectors.{det_turned}
use Rattle.plan_spec.specs.Parity.{parity, xor, over}
use Rattle.plan_spec.specs.Polygon.{edges, Inside}
use Rattle.plan_spec.specs.Segment.{segment, Segment, On}
use Rattle.plan_spec.specs.SimplePolygon.{InPolygon}
use Rattle.plan_spec.specs.Vector.{Vector, turn, IsPoint}
use Rattle.plan_plane.proofs.Lists.{any_here, any_there}
use Rattle.plan_plane.proofs.Polygon.Holding.{inside_between}
use Rattle.plan_plane.proofs.Polygon.Sides.{first_inside, second_inside, third_inside, on_first, on_last, on_third}
use Rattle.plan_plane.proofs.Polygon.Triangle.{held}
use Rattle.plan_plane.proofs.Segment.Between.{between, on, swapped}
use Rattle.plan_plane.proofs.Segment.Line.{right}
use Rattle.plan_poly.proofs.EvenOdd.Side.{is_right, over_pos, moments, flat, is_pos, is_nonpos, over_neg, over_zero, weights}

-- ---- strictly inside: odd
pub odd_inside : (a b c z : Vector) → IsPoint z → pos 0 <ℤ turn a b c → pos 0 <ℤ turn b c z → pos 0 <ℤ turn c a z → pos 0 <ℤ turn a b z → parity (edges (a ∷ b ∷ c ∷ [])) z ≡ true
odd_inside a b c z hz left ta tb tc =
    ap₂ xor (over_pos a b z tc) (ap₂ xor (over_pos b c z ta) (ap (λ t. xor t false) (over_pos c a z tb)))
    ∙ by (is_right z a) (is_right z b) (is_right z c) refl refl refl
  where
    all_left : right z a ≤ℤ pos 0 → right z b ≤ℤ pos 0 → right z c ≤ℤ pos 0 → ⊥
    all_left ra rb rc =
        let pa = mul_nonneg_nonpos (le_of_lt ta) ra in
        let pb = mul_nonneg_nonpos (le_of_lt tb) rb in
        let pc = mul_nonneg_nonpos (le_of_lt tc) rc in
        let m = moments a b c z in
        let za = zero_of_mul (turn b c z) (right z a) ta (omega (arith, linear, m, pa, pb, pc)) in
        let zb = zero_of_mul (turn c a z) (right z b) tb (omega (arith, linear, m, pa, pb, pc)) in
        let zc = zero_of_mul (turn a b z) (right z c) tc (omega (arith, linear, m, pa, pb, pc)) in
        omega (arith, linear, left, flat a b c z hz za zb zc)

    by : (x y w : Bool) → is_right z a ≡ x → is_right z b ≡ y → is_right z c ≡ w → xor (x && not y) (xor (y && not w) (xor (w && not x) false)) ≡ true
    by true true true e f g = absurd (omega (arith, linear, moments a b c z, mul_pos ta (is_pos z a e), mul_pos tb (is_pos z b f), mul_pos tc (is_pos z c g)))
    by true true false e f g = refl
    by true false true e f g = refl
    by true false false e f g = refl
    by false true true e f g = refl
    by false true false e f g = refl
    by false false true e f g = refl
    by false false false e f g = absurd (all_left (is_nonpos z a e) (is_nonpos z b f) (is_nonpos z c g))

zero_left : {m : ℤ} (n : ℤ) → m ≡ pos 0 → m *ℤ n ≡ pos 0
zero_left n e = search zeros

-- ---- strictly right of the side a b: even, by the signs of the two others
even_pos_pos : (a b c z : Vector) → turn a b z <ℤ pos 0 → pos 0 <ℤ turn b c z → pos 0 <ℤ turn c a z → parity (edges (a ∷ b ∷ c ∷ [])) z ≡ false
even_pos_pos a b c z tc ta tb =
    ap₂ xor (over_neg a b z tc) (ap₂ xor (over_pos b c z ta) (ap (λ t. xor t false) (over_pos c a z tb)))
    ∙ by (is_right z a) (is_right z b) (is_right z c) refl refl refl
  where
    by : (x y w : Bool) → is_right z a ≡ x → is_right z b ≡ y → is_right z c ≡ w → xor (not x && y) (xor (y && not w) (xor (w && not x) false)) ≡ false
    by true true true e f g = refl
    by true true false e f g = absurd (omega (arith, linear, moments a b c z, mul_pos ta (is_pos z a e), mul_pos tb (is_pos z b f), mul_nonpos (le_of_lt tc) (is_nonpos z c g)))
    by true false true e f g = refl
    by true false false e f g = refl
    by false true true e f g = refl
    by false true false e f g = refl
    by false false true e f g = absurd (omega (arith, linear, moments a b c z, mul_nonneg_nonpos (le_of_lt ta) (is_nonpos z a e), mul_nonneg_nonpos (le_of_lt tb) (is_nonpos z b f), mul_neg_pos tc (is_pos z c g)))
    by false false false e f g = refl

even_zero_pos : (a b c z : Vector) → turn a b z <ℤ pos 0 → turn b c z ≡ pos 0 → pos 0 <ℤ turn c a z → parity (edges (a ∷ b ∷ c ∷ [])) z ≡ false
even_zero_pos a b c z tc ta tb =
    ap₂ xor (over_neg a b z tc) (ap₂ xor (over_zero b c z ta) (ap (λ t. xor t false) (over_pos c a z tb)))
    ∙ by (is_right z a) (is_right z b) (is_right z c) refl refl refl
  where
    by : (x y w : Bool) → is_right z a ≡ x → is_right z b ≡ y → is_right z c ≡ w → xor (not x && y) (xor false (xor (w && not x) false)) ≡ false
    by true true true e f g = refl
    by true true false e f g = refl
    by true false true e f g = refl
    by true false false e f g = refl
    by false true true e f g = refl
    by false true false e f g = absurd (omega (arith, linear, moments a b c z, zero_left (right z a) ta, mul_pos tb (is_pos z b f), mul_nonpos (le_of_lt tc) (is_nonpos z c g)))
    by false false true e f g = absurd (omega (arith, linear, moments a b c z, zero_left (right z a) ta, mul_nonneg_nonpos (le_of_lt tb) (is_nonpos z b f), mul_neg_pos tc (is_pos z c g)))
    by false false false e f g = refl

even_pos_zero : (a b c z : Vector) → turn a b z <ℤ pos 0 → pos 0 <ℤ turn b c z → turn c a z ≡ pos 0 → parity (edges (a ∷ b ∷ c ∷ [])) z ≡ false
even_pos_zero a b c z tc ta tb =
    ap₂ xor (over_neg a b z tc) (ap₂ xor (over_pos b c z ta) (ap (λ t. xor t false) (over_zero c a z tb)))
    ∙ by (is_right z a) (is_right z b) (is_right z c) refl refl refl
  where
    by : (x y w : Bool) → is_right z a ≡ x → is_right z b ≡ y → is_right z c ≡ w → xor (not x && y) (xor (y && not w) (xor false false)) ≡ false
    by true true true e f g = refl
    by true true false e f g = absurd (omega (arith, linear, moments a b c z, mul_pos ta (is_pos z a e), zero_left (right z b) tb, mul_nonpos (le_of_lt tc) (is_nonpos z c g)))
    by true false true e f g = refl
    by true false false e f g = refl
    by false true true e f g = absurd (omega (arith, linear, moments a b c z, mul_nonneg_nonpos (le_of_lt ta) (is_nonpos z a e), zero_left (right z b) tb, mul_neg_pos tc (is_pos z c g)))
    by false true false e f g = refl
    by false false true e f g = refl
    by false false false e f g = refl

even_neg_pos : (a b c z : Vector) → turn a b z <ℤ pos 0 → turn b c z <ℤ pos 0 → pos 0 <ℤ turn c a z → parity (edges (a ∷ b ∷ c ∷ [])) z ≡ false
even_neg_pos a b c z tc ta tb =
    ap₂ xor (over_neg a b z tc) (ap₂ xor (over_neg b c z ta) (ap (λ t. xor t false) (over_pos c a z tb)))
    ∙ by (is_right z a) (is_right z b) (is_right z c) refl refl refl
  where
    by : (x y w : Bool) → is_right z a ≡ x → is_right z b ≡ y → is_right z c ≡ w → xor (not x && y) (xor (not y && w) (xor (w && not x) false)) ≡ false
    by true true true e f g = refl
    by true true false e f g = refl
    by true false true e f g = absurd (omega (arith, linear, moments a b c z, mul_neg_pos ta (is_pos z a e), mul_nonneg_nonpos (le_of_lt tb) (is_nonpos z b f), mul_neg_pos tc (is_pos z c g)))
    by true false false e f g = refl
    by false true true e f g = refl
    by false true false e f g = absurd (omega (arith, linear, moments a b c z, mul_nonpos (le_of_lt ta) (is_nonpos z a e), mul_pos tb (is_pos z b f), mul_nonpos (le_of_lt tc) (is_nonpos z c g)))
    by false false true e f g = refl
    by false false false e f g = refl

even_pos_neg : (a b c z : Vector) → turn a b z <ℤ pos 0 → pos 0 <ℤ turn b c z → turn c a z <ℤ pos 0 → parity (edges (a ∷ b ∷ c ∷ [])) z ≡ false
even_pos_neg a b c z tc ta tb =
    ap₂ xor (over_neg a b z tc) (ap₂ xor (over_pos b c z ta) (ap (λ t. xor t false) (over_neg c a z tb)))
    ∙ by (is_right z a) (is_right z b) (is_right z c) refl refl refl
  where
    by : (x y w : Bool) → is_right z a ≡ x → is_right z b ≡ y → is_right z c ≡ w → xor (not x && y) (xor (y && not w) (xor (not w && x) false)) ≡ false
    by true true true e f g = refl
    by true true false e f g = refl
    by true false true e f g = refl
    by true false false e f g = absurd (omega (arith, linear, moments a b c z, mul_pos ta (is_pos z a e), mul_nonpos (le_of_lt tb) (is_nonpos z b f), mul_nonpos (le_of_lt tc) (is_nonpos z c g)))
    by false true true e f g = absurd (omega (arith, linear, moments a b c z, mul_nonneg_nonpos (le_of_lt ta) (is_nonpos z a e), mul_neg_pos tb (is_pos z b f), mul_neg_pos tc (is_pos z c g)))
    by false true false e f g = refl
    by false false true e f g = refl
    by false false false e f g = refl

even_right : (a b c z : Vector) → IsPoint a → IsPoint b → IsPoint c → IsPoint z → pos 0 <ℤ turn a b c → turn a b z <ℤ pos 0 → parity (edges (a ∷ b ∷ c ∷ [])) z ≡ false
even_right a b c z ha hb hc hz left tc = by (sign_of (turn b c z)) (sign_of (turn c a z))
  where
    none : turn b c z ≤ℤ pos 0 → turn c a z ≤ℤ pos 0 → ⊥
    none ta tb = omega (arith, linear, weights a b c z, mul_pos left hz, mul_nonpos_nonneg ta (le_of_lt ha), mul_nonpos_nonneg tb (le_of_lt hb), mul_neg_pos tc hc)

    by : Sign (turn b c z) → Sign (turn c a z) → parity (edges (a ∷ b ∷ c ∷ [])) z ≡ false
    by (is_positive ta) (is_positive tb) = even_pos_pos a b c z tc ta tb
    by (is_zero ta) (is_positive tb) = even_zero_pos a b c z tc ta tb
    by (is_positive ta) (is_zero tb) = even_pos_zero a b c z tc ta tb
    by (is_negative ta) (is_positive tb) = even_neg_pos a b c z tc ta tb
    by (is_positive ta) (is_negative tb) = even_pos_neg a b c z tc ta tb
    by (is_zero ta) (is_zero tb) = absurd (none (omega (arith, linear)) (omega (arith, linear)))
    by (is_zero ta) (is_negative tb) = absurd (none (omega (arith, linear)) (le_of_lt tb))
    by (is_negative ta) (is_zero tb) = absurd (none (le_of_lt ta) (omega (arith, linear)))
    by (is_negative ta) (is_negative tb) = absurd (none (le_of_lt ta) (le_of_lt tb))

-- ---- the three sides in turn
xor_turned : (p q r : Bool) → xor p (xor q (xor r false)) ≡ xor q (xor r (xor p false))
xor_turned true true true = refl
xor_turned true true false = refl
xor_turned true false true = refl
xor_turned true false false = refl
xor_turned false true true = refl
xor_turned false true false = refl
xor_turned false false true = refl
xor_turned false false false = refl

parity_turned : (a b c z : Vector) → parity (edges (a ∷ b ∷ c ∷ [])) z ≡ parity (edges (b ∷ c ∷ a ∷ [])) z
parity_turned a b c z = xor_turned (over (segment a b) z) (over (segment b c) z) (over (segment c a) z)

nonneg_when_odd : (a b c z : Vector) → IsPoint a → IsPoint b → IsPoint c → IsPoint z → pos 0 <ℤ turn a b c → parity (edges (a ∷ b ∷ c ∷ [])) z ≡ true → pos 0 ≤ℤ turn a b z
nonneg_when_odd a b c z ha hb hc hz left odd = by (le_or_lt (pos 0) (turn a b z))
  where
    by : (pos 0 ≤ℤ turn a b z) ⊎ (turn a b z <ℤ pos 0) → pos 0 ≤ℤ turn a b z
    by (inl h) = h
    by (inr h) = absurd (true≢false (sym odd ∙ even_right a b c z ha hb hc hz left h))

pub inside_from : (a b c z : Vector) → IsPoint a → IsPoint b → IsPoint c → IsPoint z → pos 0 <ℤ turn a b c → InPolygon (a ∷ b ∷ c ∷ []) z → Inside (a ∷ b ∷ c ∷ []) z
inside_from a b c z ha hb hc hz left (inr odd) =
    let e = parity_turned a b c z in
    let f = parity_turned b c a z in
    let g : pos 0 <ℤ turn b c a = omega (arith, linear, det_turned a b c) in
    let h : pos 0 <ℤ turn c a b = omega (arith, linear, det_turned a b c, det_turned b c a) in
    held a b c z (nonneg_when_odd a b c z ha hb hc hz left odd) (nonneg_when_odd b c a z hb hc ha hz g (sym e ∙ odd)) (nonneg_when_odd c a b z hc ha hb hz h (sym f ∙ sym e ∙ odd))
inside_from a b c z ha hb hc hz left (inl m) = sides m.0 m.1 m.2 (subst (λ s. On s z) (sym m.3) m.4)
  where
    sides : All (λ s. On s z → Inside (a ∷ b ∷ c ∷ []) z) (edges (a ∷ b ∷ c ∷ []))
    sides =
        let P = λ (s : Segment). On s z → Inside (a ∷ b ∷ c ∷ []) z in
        All-cons P (segment a b) (segment b c ∷ segment c a ∷ []) (λ o. inside_between (a ∷ b ∷ c ∷ []) (first_inside a b c left) (second_inside a b c left) (between a b z ha hb hz o))
        (All-cons P (segment b c) (segment c a ∷ []) (λ o. inside_between (a ∷ b ∷ c ∷ []) (second_inside a b c left) (third_inside a b c left) (between b c z hb hc hz o))
        (All-cons P (segment c a) [] (λ o. inside_between (a ∷ b ∷ c ∷ []) (third_inside a b c left) (first_inside a b c left) (between c a z hc ha hz o)) (All-nil P)))

pub from_inside : (a b c z : Vector) → IsPoint z → pos 0 <ℤ turn a b c → Inside (a ∷ b ∷ c ∷ []) z → InPolygon (a ∷ b ∷ c ∷ []) z
from_inside a b c z hz left inside = by (le_or_lt (turn a b z) (pos 0)) (le_or_lt (turn b c z) (pos 0)) (le_or_lt (turn c a z) (pos 0))
  where
    e : Segment
    e = segment a b

    ab : pos 0 ≤ℤ turn a b z
    ab = inside 0 e (omega arith)

    bc : pos 0 ≤ℤ turn b c z
    bc = inside 1 e (omega arith)

    ca : pos 0 ≤ℤ turn c a z
    ca = inside 2 e (omega arith)

    turned : pos 0 <ℤ turn c a b
    turned = omega (arith, linear, left, det_turned a b c, det_turned b c a)

    zero : {n : ℤ} → pos 0 ≤ℤ n → n ≤ℤ pos 0 → n ≡ pos 0
    zero h k = omega (arith, linear)

    by : (turn a b z ≤ℤ pos 0) ⊎ (pos 0 <ℤ turn a b z) → (turn b c z ≤ℤ pos 0) ⊎ (pos 0 <ℤ turn b c z) → (turn c a z ≤ℤ pos 0) ⊎ (pos 0 <ℤ turn c a z) → InPolygon (a ∷ b ∷ c ∷ []) z
    by (inr i) (inr j) (inr k) = inr (odd_inside a b c z hz left j k i)
    by (inl i) j k = inl (any_here (λ s. On s z) (segment a b) (segment b c ∷ segment c a ∷ []) (on (on_first a b c z turned (zero ab i) bc ca)))
    by i (inl j) k = inl (any_there (λ s. On s z) (segment a b) (segment b c ∷ segment c a ∷ []) (any_here (λ s. On s z) (segment b c) (segment c a ∷ []) (on (swapped (on_third a b c z turned (zero bc j) ab ca)))))
    by i j (inl k) = inl (any_there (λ s. On s z) (segment a b) (segment b c ∷ segment c a ∷ []) (any_there (λ s. On s z) (segment b c) (segment c a ∷ []) (any_here (λ s. On s z) (segment c a) [] (on (on_last a b c z turned (zero ca k) bc ab)))))
