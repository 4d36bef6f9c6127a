-- Whether a side of a triangle stands over z, by the side of z and the places of the ends; and what the three have to do with each other.
use Rattle.std.proofs.Common.{◌*ℤ◌, Bool, ◌<ℤ◌, arith, ◌≡◌, ◌⊎◌, inl, inr, pos, true, false, ◌&&◌, not, sym, ap₂, ◌∙◌, refl, ◌≤ℤ◌, ◌+ℤ◌, [], ◌∷◌}
use Rattle.std.specs.Prelude.{int_lt}
use Rattle.plan_exact.specs.Expr.{◌⊕◌, ◌⊗◌}
use Rattle.plan_exact.specs.Formal.{A, B, C, D}
use Rattle.plan_exact.specs.Formal as F
use Rattle.plan_exact.specs.Vectors.{env}
use Rattle.plan_exact.proofs.Certificates.{eq_from}
use Rattle.plan_exact.proofs.Laws.{linear}
use Rattle.plan_exact.proofs.Ring.{ring}
use Rattle.plan_exact.proofs.Signs.{le_or_lt, le_of_lt, zeros}
use Rattle.plan_exact.proofs.Tests.{lt_true, lt_false, lt_from_true, le_from_false}
use Rattle.plan_exact.proofs.Vectors.{det_swapped}
use Rattle.plan_spec.specs.Parity.{over}
use Rattle.plan_spec.specs.Segment.{segment}
use Rattle.plan_spec.specs.Vector.{Vector, LeX, LtX, turn, IsPoint}
use Rattle.plan_plane.proofs.Segment.Line.{right, formal_right}
use Rattle.plan_cross.proofs.ParityLaw.Step.{over_reversed}
use Rattle.plan_cross.proofs.ParityLaw.Tests.{over_right_of_a, over_past_both, over_before_both}

-- ---- a side, over z or not, by the places of its ends and the side of z
-- whether a is right of z
abbrev pub is_right : Vector → Vector → Bool
is_right z a = int_lt (z.x *ℤ a.w) (a.x *ℤ z.w)

pub over_pos : (a b z : Vector) → pos 0 <ℤ turn a b z → over (segment a b) z ≡ (is_right z a && not (is_right z b))
over_pos a b z h = by (le_or_lt (a.x *ℤ z.w) (z.x *ℤ a.w)) (le_or_lt (b.x *ℤ z.w) (z.x *ℤ b.w))
  where
    shown : {x y : Bool} (p q : Bool) → x ≡ p → y ≡ q → (o : Bool) → o ≡ (p && not q) → o ≡ (x && not y)
    shown p q e f o g = g ∙ ap₂ (λ p q. p && not q) (sym e) (sym f)

    back : turn b a z <ℤ pos 0
    back = omega (arith, linear, det_swapped a b z)

    by : LeX a z ⊎ LtX z a → LeX b z ⊎ LtX z b → over (segment a b) z ≡ (is_right z a && not (is_right z b))
    by (inl i) (inl j) = shown false false (lt_false i) (lt_false j) (over (segment a b) z) (over_past_both a b z i j)
    by (inl i) (inr j) = shown false true (lt_false i) (lt_true j) (over (segment a b) z) (over_right_of_a a b z i j ∙ lt_false (le_of_lt h))
    by (inr i) (inl j) = shown true false (lt_true i) (lt_false j) (over (segment a b) z) (over_reversed a b z ∙ over_right_of_a b a z j i ∙ lt_true back)
    by (inr i) (inr j) = shown true true (lt_true i) (lt_true j) (over (segment a b) z) (over_before_both a b z i j)

pub over_neg : (a b z : Vector) → turn a b z <ℤ pos 0 → over (segment a b) z ≡ (not (is_right z a) && is_right z b)
over_neg a b z h = over_reversed a b z ∙ over_pos b a z (omega (arith, linear, det_swapped a b z)) ∙ turned (is_right z b) (is_right z a)
  where
    turned : (p q : Bool) → (p && not q) ≡ (not q && p)
    turned true true = refl
    turned true false = refl
    turned false true = refl
    turned false false = refl

pub over_zero : (a b z : Vector) → turn a b z ≡ pos 0 → over (segment a b) z ≡ false
over_zero a b z e = by (le_or_lt (a.x *ℤ z.w) (z.x *ℤ a.w)) (le_or_lt (b.x *ℤ z.w) (z.x *ℤ b.w))
  where
    here : pos 0 ≤ℤ turn a b z
    here = omega (arith, linear)

    back : pos 0 ≤ℤ turn b a z
    back = omega (arith, linear, det_swapped a b z)

    by : LeX a z ⊎ LtX z a → LeX b z ⊎ LtX z b → over (segment a b) z ≡ false
    by (inl i) (inl j) = over_past_both a b z i j
    by (inl i) (inr j) = over_right_of_a a b z i j ∙ lt_false here
    by (inr i) (inl j) = over_reversed a b z ∙ over_right_of_a b a z j i ∙ lt_false back
    by (inr i) (inr j) = over_before_both a b z i j

-- ---- what the three sides and the places of the corners have to do with each other
pub moments : (a b c z : Vector) → turn b c z *ℤ right z a +ℤ turn c a z *ℤ right z b +ℤ turn a b z *ℤ right z c ≡ pos 0
moments a b c z = ring (env [] (a ∷ b ∷ c ∷ z ∷ [])) (F.det B C D ⊗ formal_right D A ⊕ F.det C A D ⊗ formal_right D B ⊕ F.det A B D ⊗ formal_right D C) F.zero tt

pub weights : (a b c z : Vector) → turn b c z *ℤ a.w +ℤ turn c a z *ℤ b.w +ℤ turn a b z *ℤ c.w ≡ turn a b c *ℤ z.w
weights a b c z = ring (env [] (a ∷ b ∷ c ∷ z ∷ [])) (F.det B C D ⊗ A.w ⊕ F.det C A D ⊗ B.w ⊕ F.det A B D ⊗ C.w) (F.det A B C ⊗ D.w) tt

pub flat : (a b c z : Vector) → IsPoint z → right z a ≡ pos 0 → right z b ≡ pos 0 → right z c ≡ pos 0 → turn a b c ≡ pos 0
flat a b c z hz ra rb rc = eq_from (env [] (a ∷ b ∷ c ∷ z ∷ [])) D.w ((F.cross B C).x ⊗ formal_right D A ⊕ (F.cross C A).x ⊗ formal_right D B ⊕ (F.cross A B).x ⊗ formal_right D C) (F.det A B C) F.zero tt hz (search zeros)

pub is_pos : (z a : Vector) → is_right z a ≡ true → pos 0 <ℤ right z a
is_pos z a e = let h = lt_from_true (z.x *ℤ a.w) (a.x *ℤ z.w) e in omega (arith, linear)

pub is_nonpos : (z a : Vector) → is_right z a ≡ false → right z a ≤ℤ pos 0
is_nonpos z a e = let h = le_from_false (z.x *ℤ a.w) (a.x *ℤ z.w) e in omega (arith, linear)
