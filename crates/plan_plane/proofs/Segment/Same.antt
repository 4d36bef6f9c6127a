-- Two triples of one position are multiples of one another, by positive numbers: a segment has both or neither.
use Rattle.std.proofs.Common.{◌≡◌, ◌⊎◌, inl, inr, ℤ, pos, ◌-ℤ◌, ◌*ℤ◌, ◌<ℤ◌, true, [], ◌∷◌, sym, ◌∙◌, arith}
use Rattle.std.proofs.lemmas.Bool.{and_parts, and_from}
use Rattle.std.proofs.lemmas.Bool.Decides.{same_from_decides, Decides-int_eq}
use Rattle.plan_exact.specs.Expr.{var, con, ◌⊕◌, ◌⊖◌, ◌⊗◌}
use Rattle.plan_exact.specs.Vectors.{env}
use Rattle.plan_exact.specs.Formal as F
use Rattle.plan_exact.specs.Formal.{A, B, C, D}
use Rattle.plan_exact.proofs.Laws.{linear, mul_comm}
use Rattle.plan_exact.proofs.Certificates.{eq_from}
use Rattle.plan_exact.proofs.Signs.{signs, zeros, zero_of_mul, zero_of_mul_left}
use Rattle.plan_spec.specs.Vector.{Vector, IsPoint, LeX, Same, SameX, turn, same}
use Rattle.plan_spec.specs.Segment.{On, segment}
use Rattle.plan_plane.proofs.Segment.Between.{flip}
use Rattle.plan_plane.proofs.Segment.ByX.{leX_trans}

-- the turn at two triples of one position: as the one is to its weight, so is the other
pub turn_same : (a b z u : Vector) → Same z u → turn a b z *ℤ u.w ≡ turn a b u *ℤ z.w
turn_same a b z u h =
    let f : z.x *ℤ u.w -ℤ u.x *ℤ z.w ≡ pos 0 = omega (arith, linear, h.0) in
    let g : z.y *ℤ u.w -ℤ u.y *ℤ z.w ≡ pos 0 = omega (arith, linear, h.1) in
    eq_from (env [] (a ∷ b ∷ z ∷ u ∷ [])) (con (pos 1)) ((F.cross A B).x ⊗ (C.x ⊗ D.w ⊖ D.x ⊗ C.w) ⊕ (F.cross A B).y ⊗ (C.y ⊗ D.w ⊖ D.y ⊗ C.w)) (F.det A B C ⊗ D.w) (F.det A B D ⊗ C.w) tt (search signs) (search zeros)

-- ---- a segment
carried : (a b z u : Vector) → IsPoint a → IsPoint b → IsPoint z → IsPoint u → SameX z u → (LeX a z × LeX z b) ⊎ (LeX b z × LeX z a) → (LeX a u × LeX u b) ⊎ (LeX b u × LeX u a)
carried a b z u ha hb hz hu e w = by w
  where
    on : LeX z u
    on = omega (arith, linear)

    back : LeX u z
    back = omega (arith, linear)

    by : (LeX a z × LeX z b) ⊎ (LeX b z × LeX z a) → (LeX a u × LeX u b) ⊎ (LeX b u × LeX u a)
    by (inl h) = inl (leX_trans a z u ha hz hu h.0 on, leX_trans u z b hu hz hb back h.1)
    by (inr h) = inr (leX_trans b z u hb hz hu h.0 on, leX_trans u z a hu hz ha back h.1)

pub on_same : (a b z u : Vector) → IsPoint a → IsPoint b → IsPoint z → IsPoint u → Same z u → On (segment a b) z → On (segment a b) u
on_same a b z u ha hb hz hu e h = record {
  in_line = zero_of_mul z.w (turn a b u) hz (mul_comm z.w (turn a b u) ∙ sym (turn_same a b z u e) ∙ zero_of_mul_left (turn a b z) u.w h.in_line);
  within_x = carried a b z u ha hb hz hu e.0 h.within_x;
  within_y = carried (flip a) (flip b) (flip z) (flip u) ha hb hz hu e.1 h.within_y;
}

-- ---- the test `same`
pub same_true : (z u : Vector) → same z u ≡ true → Same z u
same_true z u e =
    let h = and_parts _ _ e in
    ((Decides-int_eq (z.x *ℤ u.w) (u.x *ℤ z.w)).0 h.0, (Decides-int_eq (z.y *ℤ u.w) (u.y *ℤ z.w)).0 h.1)

pub same_from : (z u : Vector) → Same z u → same z u ≡ true
same_from z u h = and_from _ _ ((Decides-int_eq (z.x *ℤ u.w) (u.x *ℤ z.w)).1 h.0) ((Decides-int_eq (z.y *ℤ u.w) (u.y *ℤ z.w)).1 h.1)

pub Same-swapped : (z u : Vector) → Same z u → Same u z
Same-swapped z u h = (sym h.0, sym h.1)

pub Same-trans : (z u v : Vector) → IsPoint u → Same z u → Same u v → Same z v
Same-trans z u v hu h k = (through z.x z.w u.x u.w v.x v.w hu h.0 k.0, through z.y z.w u.y u.w v.y v.w hu h.1 k.1)
  where
    through : (x a y b t c : ℤ) → pos 0 <ℤ b → x *ℤ b ≡ y *ℤ a → y *ℤ c ≡ t *ℤ b → x *ℤ c ≡ t *ℤ a
    through x a y b t c hb e f =
        let g : x *ℤ b -ℤ y *ℤ a ≡ pos 0 = omega (arith, linear) in
        let i : y *ℤ c -ℤ t *ℤ b ≡ pos 0 = omega (arith, linear) in
        eq_from (x ∷ a ∷ y ∷ b ∷ t ∷ c ∷ []) (var 3) (var 5 ⊗ (var 0 ⊗ var 3 ⊖ var 2 ⊗ var 1) ⊕ var 1 ⊗ (var 2 ⊗ var 5 ⊖ var 4 ⊗ var 3)) (var 0 ⊗ var 5) (var 4 ⊗ var 1) tt hb (search zeros)

pub same_comm : (z u : Vector) → same z u ≡ same u z
same_comm z u = same_from_decides (same z u) (same u z) (same_true z u, same_from z u) ((λ e. Same-swapped u z (same_true u z e)), λ h. same_from u z (Same-swapped z u h))
