-- Of two segments over one stretch of x, the lower one stands over fewer points; and two points of a line say of the same points as the line that they are below it.
use Rattle.std.proofs.Common.{◌≡◌, pos, ◌*ℤ◌, ◌≤ℤ◌, ◌<ℤ◌, [], ◌∷◌, sym, arith}
use Rattle.plan_exact.specs.Expr.{con, ◌⊕◌, ◌⊗◌, neg}
use Rattle.plan_exact.specs.Vectors.{env}
use Rattle.plan_exact.specs.Formal as F
use Rattle.plan_exact.specs.Formal.{A, B, C, D, E}
use Rattle.plan_exact.proofs.Laws.{linear}
use Rattle.plan_exact.proofs.Certificates.{lt_from, eq_from}
use Rattle.plan_exact.proofs.Signs.{signs, zeros, mul_nonneg, mul_pos_neg, nonneg_of_mul, neg_of_mul, le_of_lt}
use Rattle.plan_exact.proofs.Vectors.{cross_on_left, cross_on_right}
use Rattle.plan_spec.specs.Vector.{Vector, IsPoint, SameX, LeX, LtX, LeY, turn}
use Rattle.plan_spec.specs.Segment.{segment}
use Rattle.plan_plane.proofs.Rising.ByCoordinate.{order_x}
use Rattle.plan_plane.proofs.Segment.Line.{right, formal_right}
use Rattle.plan_map.proofs.Path.Places.{not_above_line}

-- c and d have the x of a and b, and are not below them: what is strictly below a b is strictly below c d
pub lower_over : (a b c d z : Vector) → IsPoint a → IsPoint b → IsPoint c → IsPoint d → SameX a c → SameX b d → LtX a b → LeY a c → LeY b d → LeX a z → LeX z b → turn a b z <ℤ pos 0 → turn c d z <ℤ pos 0
lower_over a b c d z ha hb hc hd e f run up vp az zb below =
    let rcd : LtX c d = order_x.less_equal c b d hc hb hd (order_x.equal_less c a b hc ha hb (sym e) run) f in
    let r : pos 0 <ℤ right a b = omega (arith, linear) in
    let s : pos 0 <ℤ right c d = omega (arith, linear) in
    let i : pos 0 ≤ℤ right z b = omega (arith, linear) in
    let j : pos 0 ≤ℤ right a z = omega (arith, linear) in
    let m = not_above_line (segment c d) c a rcd hc (cross_on_left c d) e up in
    let n = not_above_line (segment c d) d b rcd hd (cross_on_right c d) f vp in
    lt_from (env [] (a ∷ b ∷ c ∷ d ∷ z ∷ [])) (formal_right A B) (formal_right E B ⊗ neg (F.det C D A) ⊕ formal_right A E ⊗ neg (F.det C D B) ⊕ neg (F.det A B E) ⊗ formal_right C D) (F.det C D E) F.zero tt r (search signs)

-- ---- c and d are on the line from a to b
alike : (a b c d z : Vector) → turn a b c ≡ pos 0 → turn a b d ≡ pos 0 → right a b *ℤ turn c d z ≡ right c d *ℤ turn a b z
alike a b c d z hc hd =
    eq_from (env [] (a ∷ b ∷ c ∷ d ∷ z ∷ [])) (con (pos 1)) (formal_right D E ⊗ F.det A B C ⊕ neg (formal_right C E) ⊗ F.det A B D) (formal_right A B ⊗ F.det C D E) (formal_right C D ⊗ F.det A B E) tt (search signs) (search zeros)

pub below_alike : (a b c d z : Vector) → LtX a b → LtX c d → turn a b c ≡ pos 0 → turn a b d ≡ pos 0 → turn a b z <ℤ pos 0 → turn c d z <ℤ pos 0
below_alike a b c d z ab cd hc hd h =
    let r : pos 0 <ℤ right a b = omega (arith, linear) in
    let s : pos 0 <ℤ right c d = omega (arith, linear) in
    neg_of_mul r (omega (arith, linear, alike a b c d z hc hd, mul_pos_neg s h))

pub above_alike : (a b c d z : Vector) → LtX a b → LtX c d → turn a b c ≡ pos 0 → turn a b d ≡ pos 0 → pos 0 ≤ℤ turn a b z → pos 0 ≤ℤ turn c d z
above_alike a b c d z ab cd hc hd h =
    let r : pos 0 <ℤ right a b = omega (arith, linear) in
    let s : pos 0 <ℤ right c d = omega (arith, linear) in
    nonneg_of_mul r (omega (arith, linear, alike a b c d z hc hd, mul_nonneg (le_of_lt s) h))
