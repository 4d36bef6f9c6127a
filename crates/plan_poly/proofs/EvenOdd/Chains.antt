-- The parity of appended chains is the exclusive or of theirs, and the edges of a list of vertices are a closed chain.
use Rattle.std.proofs.Common.{◌≡◌, List, [], ◌∷◌, ◌++◌, refl, sym, ap, ◌∙◌, Bool, true, false}
use Rattle.plan_spec.specs.Chain.{odd_end, IsClosed}
use Rattle.plan_spec.specs.Parity.{over, parity, xor}
use Rattle.plan_spec.specs.Polygon.{edges}
use Rattle.plan_spec.specs.Route.{segments_from}
use Rattle.plan_spec.specs.Segment.{Segment}
use Rattle.plan_spec.specs.Vector.{Vector, same}
use Rattle.plan_plane.proofs.Polygon.Edges.{edges_is}
use Rattle.plan_cross.proofs.ParityLaw.Xor.{xor_assoc, xor_false, xor_same}

pub parity_append : (xs ys : List Segment) (z : Vector) → parity (xs ++ ys) z ≡ xor (parity xs z) (parity ys z)
parity_append [] ys z = refl
parity_append (x ∷ xs) ys z = ap (xor (over x z)) (parity_append xs ys z) ∙ sym (xor_assoc (over x z) (parity xs z) (parity ys z))

pub passed : (x y t : Bool) → xor (xor x y) (xor y t) ≡ xor x t
passed true true t = refl
passed true false t = refl
passed false true true = refl
passed false true false = refl
passed false false t = refl

-- ---- closed
odd_end_is : (a : Vector) (vs : List Vector) (f z : Vector) → odd_end (segments_from a (vs ++ f ∷ [])) z ≡ xor (same a z) (same f z)
odd_end_is a [] f z = xor_false (xor (same a z) (same f z))
odd_end_is a (b ∷ vs) f z = ap (xor (xor (same a z) (same b z))) (odd_end_is b vs f z) ∙ passed (same a z) (same b z) (same f z)

pub closed : (vs : List Vector) → IsClosed (edges vs)
closed [] z hz = refl
closed (a ∷ vs) z hz = ap (λ ss. odd_end ss z) (edges_is a vs) ∙ odd_end_is a vs a z ∙ xor_same (same a z)
