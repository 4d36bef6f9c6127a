-- Beside a point that is strictly inside a polygon, points are strictly inside, on the way to any other point.
use Rattle.std.proofs.Common.{inl, ℤ, pos, ◌≤ℤ◌, ◌<ℤ◌, List, [], ◌∷◌, get_or, subst}
use Rattle.plan_exact.specs.Expr.{con}
use Rattle.plan_exact.specs.Vectors.{cross, env}
use Rattle.plan_spec.specs.Vector.{Vector}
use Rattle.plan_exact.specs.Formal as F
use Rattle.plan_exact.specs.Formal.{A, B, J}
use Rattle.plan_exact.proofs.RingVectors.{ring_vectors}
use Rattle.plan_spec.specs.Polygon.{edges}
use Rattle.plan_spec.specs.Boundary.{IsLeft, StrictlyInside}
use Rattle.plan_spec.specs.Weights.{weighted}
use Rattle.plan_plane.proofs.Near.{Near, near_pos, near_all}

near_inside : (vs : List Vector) (z d : Vector) → StrictlyInside vs z → Near z d (StrictlyInside vs)
near_inside vs z d h = near_all (λ s p. IsLeft p s) (edges vs) (λ k e within. let s = get_or (edges vs) k e in near_pos z d (cross s.a s.b) (inl (h k e within)))

-- from some number m on, what weighs m at the first end and 1 at the second, or the other way round
pub near_first : (vs : List Vector) (a b : Vector) → StrictlyInside vs a → (least : ℤ) × (pos 0 <ℤ least) × ((m : ℤ) → least ≤ℤ m → StrictlyInside vs (weighted a b (record { s = m; t = pos 1 })))
near_first vs a b h =
    let n = near_inside vs a b h in
    (n.least, n.positive, λ m le. subst (StrictlyInside vs) (ring_vectors (env (m ∷ []) (a ∷ b ∷ [])) (F.sum (F.scaled J A) B) (F.sum (F.scaled J A) (F.scaled (con (pos 1)) B)) tt) (n.beyond m le))

pub near_last : (vs : List Vector) (a b : Vector) → StrictlyInside vs b → (least : ℤ) × (pos 0 <ℤ least) × ((m : ℤ) → least ≤ℤ m → StrictlyInside vs (weighted a b (record { s = pos 1; t = m })))
near_last vs a b h =
    let n = near_inside vs b a h in
    (n.least, n.positive, λ m le. subst (StrictlyInside vs) (ring_vectors (env (m ∷ []) (a ∷ b ∷ [])) (F.sum (F.scaled J B) A) (F.sum (F.scaled (con (pos 1)) A) (F.scaled J B)) tt) (n.beyond m le))
