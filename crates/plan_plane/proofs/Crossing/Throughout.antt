-- Two segments without a common point: one that is below the other at one x is below it at every x that both have. Else the two would change places in between, and meet where their gaps balance.
use Rattle.std.proofs.Common.{◌≡◌, ◌⊎◌, inl, inr, pos, ◌-ℤ◌, ◌*ℤ◌, ◌≤ℤ◌, ◌<ℤ◌, [], ◌∷◌, sym, subst, arith}
use Rattle.plan_exact.specs.Expr.{con, ◌⊕◌, ◌⊖◌, ◌⊗◌}
use Rattle.plan_exact.specs.Vectors.{sum, scaled, env}
use Rattle.plan_exact.specs.Formal as F
use Rattle.plan_exact.specs.Formal.{A, B, C, D}
use Rattle.plan_exact.proofs.Laws.{linear}
use Rattle.plan_exact.proofs.Ring.{ring}
use Rattle.plan_exact.proofs.RingVectors.{vector_path}
use Rattle.plan_exact.proofs.Certificates.{eq_from}
use Rattle.plan_exact.proofs.Signs.{signs, zeros, le_or_lt}
use Rattle.plan_spec.specs.Vector.{Vector, IsPoint, SameX, LeY, LtY}
use Rattle.plan_spec.specs.Segment.{Segment, On, HasPoints, Common}
use Rattle.plan_plane.proofs.Segment.Convexity.{convex}
use Rattle.plan_plane.proofs.Segment.Line.{above, formal_above}

-- z and v on one segment, u and w on the other, u over z and w over v: weighed by the gap at the other x, both give one point
balanced : (z u v w : Vector) → SameX z u → SameX v w → sum (scaled (above w v *ℤ u.w) z) (scaled (above z u *ℤ w.w) v) ≡ sum (scaled (above w v *ℤ z.w) u) (scaled (above z u *ℤ v.w) w)
balanced z u v w e f =
    let xs = env [] (z ∷ u ∷ v ∷ w ∷ []) in
    let g : z.x *ℤ u.w -ℤ u.x *ℤ z.w ≡ pos 0 = omega (arith, linear) in
    let h : v.x *ℤ w.w -ℤ w.x *ℤ v.w ≡ pos 0 = omega (arith, linear) in
    let s = F.sum (F.scaled (formal_above D C ⊗ B.w) A) (F.scaled (formal_above A B ⊗ D.w) C) in
    let t = F.sum (F.scaled (formal_above D C ⊗ A.w) B) (F.scaled (formal_above A B ⊗ C.w) D) in
    vector_path
    (eq_from xs (con (pos 1)) (formal_above D C ⊗ (A.x ⊗ B.w ⊖ B.x ⊗ A.w) ⊕ formal_above A B ⊗ (C.x ⊗ D.w ⊖ D.x ⊗ C.w)) s.x t.x tt (search signs) (search zeros))
    (ring xs s.y t.y tt)
    (ring xs s.w t.w tt)

pub throughout : (s t : Segment) → HasPoints s → HasPoints t → ¬ (Common s t) → (z u v w : Vector) → IsPoint z → IsPoint u → IsPoint v → IsPoint w → On s z → On t u → On s v → On t w → SameX z u → SameX v w → LtY z u → LtY v w
throughout s t hs ht apart z u v w hz hu hv hw oz ou ov ow e f below = by (le_or_lt (w.y *ℤ v.w) (v.y *ℤ w.w))
  where
    by : LeY w v ⊎ LtY v w → LtY v w
    by (inr h) = h
    by (inl h) =
        let gap : pos 0 <ℤ above z u = search signs in
        let other : pos 0 ≤ℤ above w v = search signs in
        let c = sum (scaled (above w v *ℤ u.w) z) (scaled (above z u *ℤ w.w) v) in
        let hc : IsPoint c = search signs in
        let on_s = convex s.a s.b z v (above w v *ℤ u.w) (above z u *ℤ w.w) hs.0 hs.1 hz hv oz ov (search signs) (search signs) in
        let on_t = convex t.a t.b u w (above w v *ℤ z.w) (above z u *ℤ v.w) ht.0 ht.1 hu hw ou ow (search signs) (search signs) in
        absurd (apart (c, hc, on_s, subst (On t) (sym (balanced z u v w e f)) on_t))
