-- The order of points by x is transitive, as that of fractions is.
use Rattle.std.proofs.Common.{◌⊎◌, inl, inr, arith}
use Rattle.plan_exact.proofs.Laws.{linear}
use Rattle.plan_exact.proofs.Fractions.{le_trans, lt_le_trans, le_lt_trans}
use Rattle.plan_spec.specs.Vector.{Vector, IsPoint, LeX, LtX, SameX}

pub leX_trans : (a b c : Vector) → IsPoint a → IsPoint b → IsPoint c → LeX a b → LeX b c → LeX a c
leX_trans a b c ha hb hc h k = le_trans a.x a.w b.x b.w c.x c.w ha hb hc h k

pub ltX_leX : (a b c : Vector) → IsPoint a → IsPoint b → IsPoint c → LtX a b → LeX b c → LtX a c
ltX_leX a b c ha hb hc h k = lt_le_trans a.x a.w b.x b.w c.x c.w ha hb hc h k

pub leX_ltX : (a b c : Vector) → IsPoint a → IsPoint b → IsPoint c → LeX a b → LtX b c → LtX a c
leX_ltX a b c ha hb hc h k = le_lt_trans a.x a.w b.x b.w c.x c.w ha hb hc h k

-- a point between two of one x has it too
pub between_one : (a b z : Vector) → IsPoint a → IsPoint b → IsPoint z → SameX a b → (LeX a z × LeX z b) ⊎ (LeX b z × LeX z a) → SameX a z
between_one a b z ha hb hz e (inl h) =
    let k : LeX b a = omega (arith, linear) in
    let l = leX_trans z b a hz hb ha h.1 k in
    omega (arith, linear, h.0)
between_one a b z ha hb hz e (inr h) =
    let k : LeX a b = omega (arith, linear) in
    let l = leX_trans a b z ha hb hz k h.0 in
    omega (arith, linear, h.1)
