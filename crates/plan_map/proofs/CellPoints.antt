-- The point halfway between two spans at an x, with one factor taken out.
use Rattle.std.proofs.Common.{◌≡◌, ℕ, ◌+◌, ◌*◌, ◌≤◌, ◌^◌, ℤ, pos, ◌+ℤ◌, ◌-ℤ◌, ◌*ℤ◌, ◌<ℤ◌, List, [], ◌∷◌, refl, sym, ap, ap₂, ◌∙◌, subst, unsigned_abs, arith}
use Rattle.std.proofs.lemmas.Int.{unsigned_abs-mul}
use Rattle.plan_exact.specs.Expr.{Expr, con, ◌⊕◌, ◌⊖◌, ◌⊗◌}
use Rattle.plan_exact.specs.Formal.{A, B, C}
use Rattle.plan_exact.specs.Vectors.{env}
use Rattle.plan_exact.proofs.Laws.{linear}
use Rattle.plan_exact.proofs.Ring.{ring}
use Rattle.plan_exact.proofs.RingVectors.{vector_path}
use Rattle.plan_exact.proofs.Signs.{mul_pos, sub_pos}
use Rattle.plan_exact.proofs.Sizes.{product_at_most}
use Rattle.plan_spec.specs.Vector.{Vector, Same}
use Rattle.plan_spec.specs.Regions.{foot, halfway}
use Rattle.plan_grid.specs.Bounds.{IsBounded}
use Rattle.plan_grid.specs.Spot.{spot_seen}
use Rattle.plan_convex.proofs.Distances.{run_bounded}
use Rattle.plan_slab.specs.declared.strand.Strand.{Strand}
use Rattle.plan_slab.specs.Heights.{IsOver}
use Rattle.plan_slab.specs.Seen.{strand_seen}
use Rattle.plan_slab.proofs.Bounded.{two_products, foot_is, foot_bounded}

-- at the x n / d, between heights of u and v over d times the runs p and q of two spans
abbrev pub cell_triple : (n d p q u v : ℤ) → Vector
cell_triple n d p q u v = record { x = pos 2 *ℤ (n *ℤ (p *ℤ q)); y = u *ℤ q +ℤ v *ℤ p; w = pos 2 *ℤ (d *ℤ (p *ℤ q)) }

foot_parts : (s : Strand) (z : Vector) → foot (strand_seen s) z ≡ record { x = z.x *ℤ (s.b.x -ℤ s.a.x); y = (foot (strand_seen s) z).y; w = (s.b.x -ℤ s.a.x) *ℤ z.w }
foot_parts s z = vector_path
    (ring at ((C.x ⊗ A.w ⊖ A.x ⊗ con (pos 1)) ⊗ B.x ⊕ (A.x ⊗ con (pos 1) ⊖ B.x ⊗ A.w) ⊗ C.x) (A.x ⊗ (C.x ⊖ B.x)) tt)
    refl
    (ring at ((C.x ⊗ A.w ⊖ A.x ⊗ con (pos 1)) ⊗ con (pos 1) ⊕ (A.x ⊗ con (pos 1) ⊖ B.x ⊗ A.w) ⊗ con (pos 1)) ((C.x ⊖ B.x) ⊗ A.w) tt)
  where
    at : List ℤ
    at = env [] (z ∷ spot_seen s.a ∷ spot_seen s.b ∷ [])

same_halfway : (n d p q u v : ℤ) → Same (cell_triple n d p q u v) (halfway (record { x = n *ℤ p; y = u; w = p *ℤ d }) (record { x = n *ℤ q; y = v; w = q *ℤ d }))
same_halfway n d p q u v = (ring at (x ⊗ half_w) (half_x ⊗ w) tt, ring at (y ⊗ half_w) (half_y ⊗ w) tt)
  where
    at : List ℤ
    at = env [] (record { x = n; y = u; w = d } ∷ record { x = p; y = v; w = q } ∷ [])

    x : Expr
    x = con (pos 2) ⊗ (A.x ⊗ (B.x ⊗ B.w))

    y : Expr
    y = A.y ⊗ B.w ⊕ B.y ⊗ B.x

    w : Expr
    w = con (pos 2) ⊗ (A.w ⊗ (B.x ⊗ B.w))

    half_x : Expr
    half_x = (A.x ⊗ B.x) ⊗ (B.w ⊗ A.w) ⊕ (A.x ⊗ B.w) ⊗ (B.x ⊗ A.w)

    half_y : Expr
    half_y = A.y ⊗ (B.w ⊗ A.w) ⊕ B.y ⊗ (B.x ⊗ A.w)

    half_w : Expr
    half_w = con (pos 2) ⊗ ((B.x ⊗ A.w) ⊗ (B.w ⊗ A.w))

abbrev pub triple_between : Strand → Strand → Vector → Vector
triple_between s t z = cell_triple z.x z.w (s.b.x -ℤ s.a.x) (t.b.x -ℤ t.a.x) (foot (strand_seen s) z).y (foot (strand_seen t) z).y

pub between_same : (s t : Strand) (z : Vector) → Same (triple_between s t z) (halfway (foot (strand_seen s) z) (foot (strand_seen t) z))
between_same s t z =
    subst (Same (triple_between s t z)) (ap₂ halfway (sym (foot_parts s z)) (sym (foot_parts t z)))
    (same_halfway z.x z.w (s.b.x -ℤ s.a.x) (t.b.x -ℤ t.a.x) (foot (strand_seen s) z).y (foot (strand_seen t) z).y)

-- as it is computed
pub triple_is : (s t : Strand) (z : Vector) {n d p q u v x y w : ℤ} → n ≡ z.x → d ≡ z.w → p ≡ s.b.x -ℤ s.a.x → q ≡ t.b.x -ℤ t.a.x → u ≡ (foot (strand_seen s) z).y → v ≡ (foot (strand_seen t) z).y
    → x ≡ pos 2 *ℤ (n *ℤ (p *ℤ q)) → y ≡ u *ℤ q +ℤ v *ℤ p → w ≡ pos 2 *ℤ (d *ℤ (p *ℤ q)) → record { x = x; y = y; w = w } ≡ triple_between s t z
triple_is s t z en ed ep eq eu ev ex ey ew = vector_path
    (ex ∙ ap₂ (λ n r. pos 2 *ℤ (n *ℤ r)) en (ap₂ (λ p q. p *ℤ q) ep eq))
    (ey ∙ ap₂ (λ a b. a +ℤ b) (ap₂ (λ u q. u *ℤ q) eu eq) (ap₂ (λ v p. v *ℤ p) ev ep))
    (ew ∙ ap₂ (λ d r. pos 2 *ℤ (d *ℤ r)) ed (ap₂ (λ p q. p *ℤ q) ep eq))

-- ---- how large it is
twice : (a p q : ℤ) → unsigned_abs (pos 2 *ℤ (a *ℤ (p *ℤ q))) ≡ 2 * (unsigned_abs a * (unsigned_abs p * unsigned_abs q))
twice a p q = unsigned_abs-mul (pos 2) (a *ℤ (p *ℤ q)) ∙ ap (λ k. 2 * k) (unsigned_abs-mul a (p *ℤ q) ∙ ap (λ k. unsigned_abs a * k) (unsigned_abs-mul p q))

wide : (n d p q : ℕ) → n ≤ 2046 * d → 2 * (n * (p * q)) ≤ 2046 * (2 * (d * (p * q)))
wide n d p q h = omega (arith, product_at_most n (p * q) (2046 * d) (p * q) h (omega arith))

tall : (d p q u v y : ℕ) → u ≤ 2046 * (p * d) → v ≤ 2046 * (q * d) → y ≤ u * q + v * p → y ≤ 2046 * (2 * (d * (p * q)))
tall d p q u v y hu hv hy = omega (arith, product_at_most u q (2046 * (p * d)) q hu (omega arith), product_at_most v p (2046 * (q * d)) p hv (omega arith))

light : (d p q : ℕ) → d ≤ 2 ^ 26 → p ≤ 4092 → q ≤ 4092 → 2 * (d * (p * q)) ≤ 2 ^ 51
light d p q hd hp hq = omega (arith, product_at_most d (p * q) (2 ^ 26) (4092 * 4092) hd (product_at_most p q 4092 4092 hp hq))

foot_low : (s : Strand) (z : Vector) → IsOver s z → IsBounded (2 ^ 26) z → unsigned_abs (foot (strand_seen s) z).y ≤ 2046 * (unsigned_abs (s.b.x -ℤ s.a.x) * unsigned_abs z.w)
foot_low s z over hz =
    let h = subst (IsBounded (2 ^ 38)) (foot_is s z) (foot_bounded s z over hz) in
    let w = ap (λ (v : Vector). unsigned_abs v.w) (foot_parts s z) in
    omega (arith, h.y_bounded, w, unsigned_abs-mul (s.b.x -ℤ s.a.x) z.w)

pub between_bounded : (s t : Strand) (z : Vector) → IsOver s z → IsOver t z → IsBounded (2 ^ 26) z → IsBounded (2 ^ 51) (triple_between s t z)
between_bounded s t z hs ht hz = record {
  weight = omega (arith, linear, positive);
  weight_bounded = omega (arith, w, light (unsigned_abs z.w) (unsigned_abs p) (unsigned_abs q) hz.weight_bounded (run_bounded s.a.x s.b.x hs.a_bounded.x hs.b_bounded.x) (run_bounded t.a.x t.b.x ht.a_bounded.x ht.b_bounded.x));
  x_bounded = omega (arith, w, twice z.x p q, wide (unsigned_abs z.x) (unsigned_abs z.w) (unsigned_abs p) (unsigned_abs q) hz.x_bounded);
  y_bounded = omega (arith, w, tall (unsigned_abs z.w) (unsigned_abs p) (unsigned_abs q) (unsigned_abs u) (unsigned_abs v) (unsigned_abs (u *ℤ q +ℤ v *ℤ p)) (foot_low s z hs hz) (foot_low t z ht hz) (two_products u q v p));
}
  where
    p : ℤ
    p = s.b.x -ℤ s.a.x

    q : ℤ
    q = t.b.x -ℤ t.a.x

    u : ℤ
    u = (foot (strand_seen s) z).y

    v : ℤ
    v = (foot (strand_seen t) z).y

    w : unsigned_abs (pos 2 *ℤ (z.w *ℤ (p *ℤ q))) ≡ 2 * (unsigned_abs z.w * (unsigned_abs p * unsigned_abs q))
    w = twice z.w p q

    positive : pos 0 <ℤ (pos 2 *ℤ (z.w *ℤ (p *ℤ q)))
    positive =
        let runs = mul_pos {a = p} {b = q} (sub_pos {a = s.a.x} {b = s.b.x} hs.rising) (sub_pos {a = t.a.x} {b = t.b.x} ht.rising) in
        mul_pos {a = pos 2} {b = z.w *ℤ (p *ℤ q)} (omega (arith, linear)) (mul_pos {a = z.w} {b = p *ℤ q} (omega (arith, linear, hz.weight)) runs)
