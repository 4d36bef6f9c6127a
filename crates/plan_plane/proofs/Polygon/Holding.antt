-- A convex polygon holds its vertices, and with two points the segment between them.
use Rattle.std.proofs.Common.{◌≡◌, inl, inr, pos, ◌-ℤ◌, ◌*ℤ◌, List, [], ◌∷◌, get_or, All, arith}
use Rattle.plan_exact.specs.Expr.{◌⊕◌, ◌⊖◌, ◌⊗◌}
use Rattle.plan_exact.specs.Vectors.{cross, env}
use Rattle.plan_exact.specs.Formal as F
use Rattle.plan_exact.specs.Formal.{A, B, C}
use Rattle.plan_exact.proofs.Certificates.{eq_from}
use Rattle.plan_exact.proofs.Laws.{linear}
use Rattle.plan_exact.proofs.Signs.{zeros}
use Rattle.plan_exact.proofs.Vectors.{det_swapped}
use Rattle.plan_spec.specs.Vector.{Vector, IsPoint, Same, turn}
use Rattle.plan_spec.specs.Segment.{Segment}
use Rattle.plan_spec.specs.Polygon.{OnOrLeft, Inside, EndOrLeft, edges}
use Rattle.plan_plane.proofs.Segment.Between.{Between, nonneg_at}

turn_same : (a b v : Vector) → IsPoint v → Same v a → turn a b v ≡ pos 0
turn_same a b v hv (ex, ey) =
    let dx : a.x *ℤ v.w -ℤ v.x *ℤ a.w ≡ pos 0 = omega (arith, linear) in
    let dy : a.y *ℤ v.w -ℤ v.y *ℤ a.w ≡ pos 0 = omega (arith, linear) in
    eq_from (env [] (a ∷ b ∷ v ∷ [])) C.w ((B.y ⊗ C.w ⊖ B.w ⊗ C.y) ⊗ (A.x ⊗ C.w ⊖ C.x ⊗ A.w) ⊕ (B.w ⊗ C.x ⊖ B.x ⊗ C.w) ⊗ (A.y ⊗ C.w ⊖ C.y ⊗ A.w)) (F.det A B C) F.zero tt hv (search zeros)

on_or_left : (s : Segment) (v : Vector) → IsPoint v → EndOrLeft s v → OnOrLeft v s
on_or_left s v hv (inl same) = omega (arith, linear, turn_same s.a s.b v hv same)
on_or_left s v hv (inr (inl same)) = omega (arith, linear, det_swapped s.a s.b v, turn_same s.b s.a v hv same)
on_or_left s v hv (inr (inr left)) = omega (arith, linear)

-- every vertex is on or left of every edge
abbrev pub IsLeftOfEdges : List Vector → Type 0
IsLeftOfEdges vs = All (λ s. All (EndOrLeft s) vs) (edges vs)

pub vertices_inside : (vs : List Vector) → IsLeftOfEdges vs → All IsPoint vs → All (Inside vs) vs
vertices_inside vs left points k d within j e below = on_or_left _ _ (points k d within) (left j e below k d within)

pub inside_between : (vs : List Vector) {u v y : Vector} → Inside vs u → Inside vs v → Between u v y → Inside vs y
inside_between vs hu hv b k d within =
    let s = get_or (edges vs) k d in
    nonneg_at b (cross s.a s.b) (hu k d within) (hv k d within)
