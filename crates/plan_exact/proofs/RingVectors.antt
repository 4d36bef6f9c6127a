-- `ring` for vectors: both sides are vectors of expressions.
use Rattle.std.proofs.Common.{◌≡◌, ℤ, T, ◌&&◌, Bool, true, false, List}
use Rattle.plan_exact.specs.Expr.{eval, same}
use Rattle.plan_exact.specs.Vectors.{Vector}
use Rattle.plan_exact.specs.Formal as F
use Rattle.plan_exact.proofs.Ring.{ring}

pub vector_path : {a b : Vector} → a.x ≡ b.x → a.y ≡ b.y → a.w ≡ b.w → a ≡ b
vector_path p q r = λ i. record { x = p i; y = q i; w = r i }

abbrev pub eval_vector : List ℤ → F.Vec → Vector
eval_vector xs v = record { x = eval xs v.x; y = eval xs v.y; w = eval xs v.w }

abbrev pub same_vectors : F.Vec → F.Vec → Bool
same_vectors a b = same a.x b.x && same a.y b.y && same a.w b.w

all_three : (p q r : Bool) → T (p && q && r) → T p × T q × T r
all_three true true r t = (tt, tt, t)
all_three true false r t = absurd t
all_three false q r t = absurd t

pub ring_vectors : (xs : List ℤ) (a b : F.Vec) → T (same_vectors a b) → eval_vector xs a ≡ eval_vector xs b
ring_vectors xs a b t =
    let s = all_three (same a.x b.x) (same a.y b.y) (same a.w b.w) t in
    vector_path (ring xs a.x b.x s.0) (ring xs a.y b.y s.1) (ring xs a.w b.w s.2)
