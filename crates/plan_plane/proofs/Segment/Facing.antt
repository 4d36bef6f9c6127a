-- The covector that faces from z to a: 0 at z, the square of the distance at a, and 0 on their line at z alone.
use Rattle.std.proofs.Common.{ℤ, ◌+ℤ◌, ◌*ℤ◌, neg_ℤ, ◌≡◌, pos, [], ◌∷◌, arith, ◌<ℤ◌}
use Rattle.plan_exact.specs.Expr.{◌⊕◌, ◌⊗◌, neg, Expr}
use Rattle.plan_exact.specs.Formal.{A, B, C}
use Rattle.plan_exact.specs.Formal as F
use Rattle.plan_exact.specs.Sign.{Sign, is_negative, is_zero, is_positive}
use Rattle.plan_exact.specs.Vectors.{dot, env}
use Rattle.plan_exact.proofs.Certificates.{eq_from}
use Rattle.plan_exact.proofs.Laws.{linear}
use Rattle.plan_exact.proofs.Ring.{ring}
use Rattle.plan_exact.proofs.Signs.{sign_of, not_zero_of_pos, not_zero_of_neg, square_nonneg, square_pos, zeros}
use Rattle.plan_spec.specs.Vector.{Vector, Same, turn}
use Rattle.plan_plane.proofs.Segment.Line.{right, above, formal_right, formal_above}

-- ---- from z towards a: 0 at z, and positive at a
abbrev pub facing : Vector → Vector → Vector
facing z a = record { x = right z a *ℤ z.w; y = above z a *ℤ z.w; w = neg_ℤ (right z a *ℤ z.x +ℤ above z a *ℤ z.y) }

abbrev pub facing_of : F.Vec → F.Vec → F.Vec
facing_of z a = record { x = formal_right z a ⊗ z.w; y = formal_above z a ⊗ z.w; w = neg (formal_right z a ⊗ z.x ⊕ formal_above z a ⊗ z.y) }

pub facing_from : (z a : Vector) → dot (facing z a) z ≡ pos 0
facing_from z a = ring (env [] (z ∷ a ∷ [])) (F.dot (facing_of A B) A) F.zero tt

abbrev length_of : Vector → Vector → ℤ
length_of z a = right z a *ℤ right z a +ℤ above z a *ℤ above z a

facing_to_is : (z a : Vector) → dot (facing z a) a ≡ length_of z a
facing_to_is z a = ring (env [] (z ∷ a ∷ [])) (F.dot (facing_of A B) B) (formal_right A B ⊗ formal_right A B ⊕ formal_above A B ⊗ formal_above A B) tt

same_from_zeros : (z a : Vector) → right z a ≡ pos 0 → above z a ≡ pos 0 → Same z a
same_from_zeros z a h k = (omega (arith, linear), omega (arith, linear))

apart_pos : (z a : Vector) → ¬ (Same z a) → pos 0 <ℤ length_of z a
apart_pos z a apart = by (sign_of (right z a)) (sign_of (above z a))
  where
    by : Sign (right z a) → Sign (above z a) → pos 0 <ℤ length_of z a
    by (is_zero e) (is_zero f) = absurd (apart (same_from_zeros z a e f))
    by (is_positive h) s = omega (arith, linear, square_pos (right z a) (not_zero_of_pos h), square_nonneg (above z a))
    by (is_negative h) s = omega (arith, linear, square_pos (right z a) (not_zero_of_neg h), square_nonneg (above z a))
    by s (is_positive h) = omega (arith, linear, square_pos (above z a) (not_zero_of_pos h), square_nonneg (right z a))
    by s (is_negative h) = omega (arith, linear, square_pos (above z a) (not_zero_of_neg h), square_nonneg (right z a))

pub facing_to : (z a : Vector) → ¬ (Same z a) → pos 0 <ℤ dot (facing z a) a
facing_to z a apart = omega (arith, linear, facing_to_is z a, apart_pos z a apart)

-- of the line through z and a it is 0 at z alone
pub facing_zero : (z a b : Vector) → ¬ (Same z a) → turn z a b ≡ pos 0 → dot (facing z a) b ≡ pos 0 → Same z b
facing_zero z a b apart line zero =
    let xs = env [] (z ∷ a ∷ b ∷ []) in
    let s : Expr = formal_right A B ⊗ formal_right A B ⊕ formal_above A B ⊗ formal_above A B in
    let h : right z b ≡ pos 0 = eq_from xs s (formal_right A B ⊗ F.dot (facing_of A B) C ⊕ neg (formal_above A B ⊗ A.w) ⊗ F.det A B C) (formal_right A C) F.zero tt (apart_pos z a apart) (search zeros) in
    let k : above z b ≡ pos 0 = eq_from xs s (formal_above A B ⊗ F.dot (facing_of A B) C ⊕ (formal_right A B ⊗ A.w) ⊗ F.det A B C) (formal_above A C) F.zero tt (apart_pos z a apart) (search zeros) in
    same_from_zeros z b h k
