-- A polygon holds no point that is strictly left of all its vertices, right of, below or above them: no edge stands over such a point, but below them each edge does whose ends are on two sides of it, and round the polygon there is an even number of these.
use Rattle.std.proofs.Common.{◌≡◌, ◌⊎◌, inl, inr, pos, ◌-ℤ◌, ◌*ℤ◌, ◌≤ℤ◌, ◌<ℤ◌, Bool, true, false, List, [], ◌∷◌, ◌++◌, get_or, All, refl, sym, ap, ap₂, subst, ◌∙◌, arith, true≢false}
use Rattle.std.proofs.lemmas.List.Elements.{All-head, All-tail}
use Rattle.plan_exact.specs.Expr.{◌⊖◌, ◌⊗◌}
use Rattle.plan_exact.specs.Formal as F
use Rattle.plan_exact.specs.Formal.{A, B, C}
use Rattle.plan_exact.specs.Vectors.{env}
use Rattle.plan_exact.proofs.Laws.{linear}
use Rattle.plan_exact.proofs.Ring.{ring}
use Rattle.plan_exact.proofs.Signs.{le_or_lt, le_of_lt, mul_pos, mul_nonpos, mul_nonpos_nonneg, mul_neg_pos, neg_of_mul, nonneg_of_mul}
use Rattle.plan_exact.proofs.Tests.{lt_true, lt_false}
use Rattle.plan_spec.specs.Vector.{Vector, IsPoint, LeX, LtX, LeY, LtY, turn}
use Rattle.plan_spec.specs.Segment.{Segment, segment, On}
use Rattle.plan_spec.specs.Parity.{over, parity, xor}
use Rattle.plan_spec.specs.Polygon.{edges}
use Rattle.plan_spec.specs.Route.{segments_from}
use Rattle.plan_spec.specs.SimplePolygon.{InPolygon}
use Rattle.plan_plane.proofs.Lists.{no_one}
use Rattle.plan_plane.proofs.Polygon.Edges.{edges_is, ends_of_edges}
use Rattle.plan_plane.proofs.Segment.Line.{right, above, formal_right, formal_above}
use Rattle.plan_cross.proofs.ParityLaw.Step.{over_reversed}
use Rattle.plan_cross.proofs.ParityLaw.Tests.{over_right_of_a, over_past_both, over_before_both}
use Rattle.plan_cross.proofs.ParityLaw.Xor.{xor_false, xor_same}
use Rattle.plan_poly.proofs.EvenOdd.Chains.{passed}
use Rattle.plan_poly.proofs.EvenOdd.Side.{is_right}

-- ---- edges that stand over z exactly where one end has a property and the other has not
abbrev Splits : (Vector → Bool) → Vector → Segment → Type 0
Splits f z s = over s z ≡ xor (f s.a) (f s.b)

walked : (f : Vector → Bool) (z a : Vector) (vs : List Vector) (e : Vector) → All (Splits f z) (segments_from a (vs ++ e ∷ [])) → parity (segments_from a (vs ++ e ∷ [])) z ≡ xor (f a) (f e)
walked f z a [] e h = ap (λ o. xor o false) (All-head (Splits f z) (segment a e) [] h) ∙ xor_false (xor (f a) (f e))
walked f z a (b ∷ vs) e h =
    let rest = segments_from b (vs ++ e ∷ []) in
    ap₂ xor (All-head (Splits f z) (segment a b) rest h) (walked f z b vs e (All-tail (Splits f z) (segment a b) rest h)) ∙ passed (f a) (f b) (f e)

even_round : (f : Vector → Bool) (z : Vector) (vs : List Vector) → All (Splits f z) (edges vs) → parity (edges vs) z ≡ false
even_round f z [] h = refl
even_round f z (a ∷ vs) h = ap (λ ss. parity ss z) (edges_is a vs) ∙ walked f z a vs a (subst (All (Splits f z)) (edges_is a vs) h) ∙ xor_same (f a)

not_in : (f : Vector → Bool) (z : Vector) (vs : List Vector) → All (Splits f z) (edges vs) → All (λ s. ¬ (On s z)) (edges vs) → ¬ (InPolygon vs z)
not_in f z vs splits off (inl m) = no_one (λ s. On s z) (edges vs) off m
not_in f z vs splits off (inr odd) = absurd (true≢false (sym odd ∙ even_round f z vs splits))

-- ---- left and right of all
pub left_of_all : (vs : List Vector) (z : Vector) → All (λ v. LtX z v) vs → ¬ (InPolygon vs z)
left_of_all vs z h =
    let ends = ends_of_edges (λ v. LtX z v) vs h in
    not_in (λ v. false) z vs
    (λ k d within. let e = ends k d within in over_before_both _ _ z e.0 e.1)
    (λ k d within o. let e = ends k d within in not_reached (get_or (edges vs) k d) e.0 e.1 o.within_x)
  where
    not_reached : (s : Segment) → LtX z s.a → LtX z s.b → ¬ ((LeX s.a z × LeX z s.b) ⊎ (LeX s.b z × LeX z s.a))
    not_reached s ha hb (inl h) = let k = h.0 in omega (arith, linear)
    not_reached s ha hb (inr h) = let k = h.0 in omega (arith, linear)

pub right_of_all : (vs : List Vector) (z : Vector) → All (λ v. LtX v z) vs → ¬ (InPolygon vs z)
right_of_all vs z h =
    let ends = ends_of_edges (λ v. LtX v z) vs h in
    not_in (λ v. false) z vs
    (λ k d within. let e = ends k d within in over_past_both _ _ z (le_of_lt e.0) (le_of_lt e.1))
    (λ k d within o. let e = ends k d within in not_reached (get_or (edges vs) k d) e.0 e.1 o.within_x)
  where
    not_reached : (s : Segment) → LtX s.a z → LtX s.b z → ¬ ((LeX s.a z × LeX z s.b) ⊎ (LeX s.b z × LeX z s.a))
    not_reached s ha hb (inl h) = let k = h.1 in omega (arith, linear)
    not_reached s ha hb (inr h) = let k = h.1 in omega (arith, linear)

-- ---- below and above all
-- z is to the one side of a segment above it, and to the other side of one below it
crossing : (a b z : Vector) → z.w *ℤ turn a b z ≡ right z a *ℤ above z b -ℤ above z a *ℤ right z b
crossing a b z = ring (env [] (a ∷ b ∷ z ∷ [])) (C.w ⊗ F.det A B C) (formal_right C A ⊗ formal_above C B ⊖ formal_above C A ⊗ formal_right C B) tt

under : (a b z : Vector) → IsPoint z → LeX a z → LtX z b → LtY z a → LtY z b → turn a b z <ℤ pos 0
under a b z hz i j ha hb =
    let ra : right z a ≤ℤ pos 0 = omega (arith, linear) in
    let rb : pos 0 <ℤ right z b = omega (arith, linear) in
    let ua : pos 0 <ℤ above z a = omega (arith, linear) in
    let ub : pos 0 ≤ℤ above z b = omega (arith, linear) in
    neg_of_mul hz (omega (arith, linear, crossing a b z, mul_nonpos_nonneg ra ub, mul_pos ua rb))

on_top : (a b z : Vector) → IsPoint z → LeX a z → LtX z b → LtY a z → LtY b z → pos 0 ≤ℤ turn a b z
on_top a b z hz i j ha hb =
    let ra : right z a ≤ℤ pos 0 = omega (arith, linear) in
    let rb : pos 0 <ℤ right z b = omega (arith, linear) in
    let ua : above z a <ℤ pos 0 = omega (arith, linear) in
    let ub : above z b ≤ℤ pos 0 = omega (arith, linear) in
    nonneg_of_mul hz (omega (arith, linear, crossing a b z, mul_nonpos ra ub, mul_neg_pos ua rb))

over_when_under : (a b z : Vector) → IsPoint z → LtY z a → LtY z b → Splits (is_right z) z (segment a b)
over_when_under a b z hz ha hb = by (le_or_lt (a.x *ℤ z.w) (z.x *ℤ a.w)) (le_or_lt (b.x *ℤ z.w) (z.x *ℤ b.w))
  where
    shown : {x y : Bool} (p q : Bool) → x ≡ p → y ≡ q → over (segment a b) z ≡ xor p q → over (segment a b) z ≡ xor x y
    shown p q e f g = g ∙ ap₂ xor (sym e) (sym f)

    by : LeX a z ⊎ LtX z a → LeX b z ⊎ LtX z b → Splits (is_right z) z (segment a b)
    by (inl i) (inl j) = shown false false (lt_false i) (lt_false j) (over_past_both a b z i j)
    by (inl i) (inr j) = shown false true (lt_false i) (lt_true j) (over_right_of_a a b z i j ∙ lt_true (under a b z hz i j ha hb))
    by (inr i) (inl j) = shown true false (lt_true i) (lt_false j) (over_reversed a b z ∙ over_right_of_a b a z j i ∙ lt_true (under b a z hz j i hb ha))
    by (inr i) (inr j) = shown true true (lt_true i) (lt_true j) (over_before_both a b z i j)

not_over_on_top : (a b z : Vector) → IsPoint z → LtY a z → LtY b z → over (segment a b) z ≡ false
not_over_on_top a b z hz ha hb = by (le_or_lt (a.x *ℤ z.w) (z.x *ℤ a.w)) (le_or_lt (b.x *ℤ z.w) (z.x *ℤ b.w))
  where
    by : LeX a z ⊎ LtX z a → LeX b z ⊎ LtX z b → over (segment a b) z ≡ false
    by (inl i) (inl j) = over_past_both a b z i j
    by (inl i) (inr j) = over_right_of_a a b z i j ∙ lt_false (on_top a b z hz i j ha hb)
    by (inr i) (inl j) = over_reversed a b z ∙ over_right_of_a b a z j i ∙ lt_false (on_top b a z hz j i hb ha)
    by (inr i) (inr j) = over_before_both a b z i j

pub below_all : (vs : List Vector) (z : Vector) → IsPoint z → All (λ v. LtY z v) vs → ¬ (InPolygon vs z)
below_all vs z hz h =
    let ends = ends_of_edges (λ v. LtY z v) vs h in
    not_in (is_right z) z vs
    (λ k d within. let e = ends k d within in over_when_under _ _ z hz e.0 e.1)
    (λ k d within o. let e = ends k d within in not_reached (get_or (edges vs) k d) e.0 e.1 o.within_y)
  where
    not_reached : (s : Segment) → LtY z s.a → LtY z s.b → ¬ ((LeY s.a z × LeY z s.b) ⊎ (LeY s.b z × LeY z s.a))
    not_reached s ha hb (inl h) = let k = h.0 in omega (arith, linear)
    not_reached s ha hb (inr h) = let k = h.0 in omega (arith, linear)

pub above_all : (vs : List Vector) (z : Vector) → IsPoint z → All (λ v. LtY v z) vs → ¬ (InPolygon vs z)
above_all vs z hz h =
    let ends = ends_of_edges (λ v. LtY v z) vs h in
    not_in (λ v. false) z vs
    (λ k d within. let e = ends k d within in not_over_on_top _ _ z hz e.0 e.1)
    (λ k d within o. let e = ends k d within in not_reached (get_or (edges vs) k d) e.0 e.1 o.within_y)
  where
    not_reached : (s : Segment) → LtY s.a z → LtY s.b z → ¬ ((LeY s.a z × LeY z s.b) ⊎ (LeY s.b z × LeY z s.a))
    not_reached s ha hb (inl h) = let k = h.1 in omega (arith, linear)
    not_reached s ha hb (inr h) = let k = h.1 in omega (arith, linear)
