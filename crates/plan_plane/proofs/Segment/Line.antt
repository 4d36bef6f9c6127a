-- On a line that is not vertical, a point whose x is between those of two others is on the segment between them: along the line y only rises or only falls.
use Rattle.std.proofs.Common.{◌≡◌, ◌⊎◌, inl, inr, ℤ, pos, ◌-ℤ◌, ◌*ℤ◌, ◌≤ℤ◌, ◌<ℤ◌, [], ◌∷◌, subst, sym, arith}
use Rattle.plan_exact.specs.Expr.{Expr, con, ◌⊕◌, ◌⊖◌, ◌⊗◌, neg}
use Rattle.plan_exact.specs.Vectors.{env}
use Rattle.plan_exact.specs.Formal as F
use Rattle.plan_exact.specs.Formal.{A, B, C, D, E}
use Rattle.plan_exact.proofs.Laws.{linear}
use Rattle.plan_exact.proofs.Certificates.{eq_from}
use Rattle.plan_exact.proofs.Signs.{signs, zeros, mul_nonpos_nonneg, nonneg_of_mul, nonpos_of_mul, le_or_ge}
use Rattle.plan_spec.specs.Vector.{Vector, LeX, LtX, LeY, turn}
use Rattle.plan_spec.specs.Segment.{On, segment}

-- how far q is right of p, and above it, each times the two weights; and the same over expressions
abbrev pub right : Vector → Vector → ℤ
right p q = q.x *ℤ p.w -ℤ p.x *ℤ q.w

abbrev pub above : Vector → Vector → ℤ
above p q = q.y *ℤ p.w -ℤ p.y *ℤ q.w

abbrev pub formal_right : F.Vec → F.Vec → Expr
formal_right p q = q.x ⊗ p.w ⊖ p.x ⊗ q.w

abbrev pub formal_above : F.Vec → F.Vec → Expr
formal_above p q = q.y ⊗ p.w ⊖ p.y ⊗ q.w

-- two points of the line have its slope
slope : (a b u z : Vector) → turn a b u ≡ pos 0 → turn a b z ≡ pos 0 → right a b *ℤ above u z ≡ above a b *ℤ right u z
slope a b u z hu hz =
    eq_from (env [] (a ∷ b ∷ u ∷ z ∷ [])) (con (pos 1)) (neg D.w ⊗ F.det A B C ⊕ C.w ⊗ F.det A B D) (formal_right A B ⊗ formal_above C D) (formal_above A B ⊗ formal_right C D) tt (search signs) (search zeros)

rise : (a b u z : Vector) → LtX a b → turn a b u ≡ pos 0 → turn a b z ≡ pos 0 → LeX u z → LeY a b → LeY u z
rise a b u z run hu hz h up =
    let r : pos 0 <ℤ right a b = omega (arith, linear) in
    let m : pos 0 ≤ℤ (above a b *ℤ right u z) = search signs in
    let n = nonneg_of_mul r (subst (λ y. pos 0 ≤ℤ y) (sym (slope a b u z hu hz)) m) in
    omega (arith, linear)

fall : (a b u z : Vector) → LtX a b → turn a b u ≡ pos 0 → turn a b z ≡ pos 0 → LeX u z → LeY b a → LeY z u
fall a b u z run hu hz h down =
    let r : pos 0 <ℤ right a b = omega (arith, linear) in
    let d : above a b ≤ℤ pos 0 = omega (arith, linear) in
    let k : pos 0 ≤ℤ right u z = omega (arith, linear) in
    let n = nonpos_of_mul r (subst (λ y. y ≤ℤ pos 0) (sym (slope a b u z hu hz)) (mul_nonpos_nonneg d k)) in
    omega (arith, linear)

pub on_line : (a b u v z : Vector) → LtX a b → turn a b u ≡ pos 0 → turn a b v ≡ pos 0 → turn a b z ≡ pos 0 → LeX u z → LeX z v → On (segment u v) z
on_line a b u v z run hu hv hz h k = record {
  in_line = eq_from (env [] (a ∷ b ∷ u ∷ v ∷ z ∷ [])) (formal_right A B) (formal_right D E ⊗ F.det A B C ⊕ neg (formal_right C E) ⊗ F.det A B D ⊕ formal_right C D ⊗ F.det A B E) (F.det C D E) F.zero tt (search signs) (search zeros);
  within_x = inl (h, k);
  within_y = by (le_or_ge (a.y *ℤ b.w) (b.y *ℤ a.w));
}
  where
    by : LeY a b ⊎ LeY b a → (LeY u z × LeY z v) ⊎ (LeY v z × LeY z u)
    by (inl up) = inl (rise a b u z run hu hz h up, rise a b z v run hz hv k up)
    by (inr down) = inr (fall a b z v run hz hv k down, fall a b u z run hu hz h down)
