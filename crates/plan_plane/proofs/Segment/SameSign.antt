-- The sign of a covector at a point depends on the position of the point alone, and not on its triple.
use Rattle.std.proofs.Common.{◌≡◌, pos, ◌-ℤ◌, ◌*ℤ◌, ◌≤ℤ◌, ◌<ℤ◌, [], ◌∷◌, arith}
use Rattle.plan_exact.specs.Expr.{con, ◌⊕◌, ◌⊖◌, ◌⊗◌}
use Rattle.plan_exact.specs.Vectors.{dot, env}
use Rattle.plan_exact.specs.Formal as F
use Rattle.plan_exact.specs.Formal.{A, B, C}
use Rattle.plan_exact.proofs.Certificates.{eq_from}
use Rattle.plan_exact.proofs.Laws.{linear, mul_comm}
use Rattle.plan_exact.proofs.Signs.{signs, zeros, mul_nonneg, mul_pos, nonneg_of_mul, pos_of_mul, zero_of_mul, le_of_lt}
use Rattle.plan_spec.specs.Vector.{Vector, IsPoint, Same}

pub dot_same : (l z u : Vector) → Same z u → dot l z *ℤ u.w ≡ dot l u *ℤ z.w
dot_same l z u h =
    let f : z.x *ℤ u.w -ℤ u.x *ℤ z.w ≡ pos 0 = omega (arith, linear, h.0) in
    let g : z.y *ℤ u.w -ℤ u.y *ℤ z.w ≡ pos 0 = omega (arith, linear, h.1) in
    eq_from (env [] (l ∷ z ∷ u ∷ [])) (con (pos 1)) (A.x ⊗ (B.x ⊗ C.w ⊖ C.x ⊗ B.w) ⊕ A.y ⊗ (B.y ⊗ C.w ⊖ C.y ⊗ B.w)) (F.dot A B ⊗ C.w) (F.dot A C ⊗ B.w) tt (search signs) (search zeros)

pub pos_same : (l z u : Vector) → IsPoint z → IsPoint u → Same z u → pos 0 <ℤ dot l z → pos 0 <ℤ dot l u
pos_same l z u hz hu e h = pos_of_mul hz (omega (arith, linear, mul_pos h hu, dot_same l z u e, mul_comm z.w (dot l u)))

pub nonneg_same : (l z u : Vector) → IsPoint z → IsPoint u → Same z u → pos 0 ≤ℤ dot l z → pos 0 ≤ℤ dot l u
nonneg_same l z u hz hu e h = nonneg_of_mul hz (omega (arith, linear, mul_nonneg h (le_of_lt hu), dot_same l z u e, mul_comm z.w (dot l u)))

pub zero_same : (l z u : Vector) → IsPoint z → Same z u → dot l z ≡ pos 0 → dot l u ≡ pos 0
zero_same l z u hz e h =
    let f : dot l z *ℤ u.w ≡ pos 0 = search zeros in
    zero_of_mul z.w (dot l u) hz (omega (arith, linear, f, dot_same l z u e, mul_comm z.w (dot l u)))
