-- A polygon whose list begins at another vertex has the same edges and holds the same points.
use Rattle.std.proofs.Common.{List, All, sym, subst, inl, inr, Any, ap, ◌∙◌}
use Rattle.std.proofs.lemmas.List.Elements.{All-append}
use Rattle.plan_spec.specs.Parity.{parity}
use Rattle.plan_spec.specs.Polygon.{edges}
use Rattle.plan_spec.specs.Segment.{Segment, On}
use Rattle.plan_spec.specs.SimplePolygon.{InPolygon}
use Rattle.plan_spec.specs.Vector.{Vector}
use Rattle.plan_plane.proofs.Lists.{all_left, all_right, any_left, any_right, any_joined}
use Rattle.plan_plane.proofs.Polygon.Cut.{whole, chain}
use Rattle.plan_plane.proofs.Polygon.Edges.{edges_cut}
use Rattle.plan_cross.proofs.ParityLaw.Xor.{xor_comm}
use Rattle.plan_poly.proofs.EvenOdd.Chains.{parity_append}

-- ---- two appended parts change places
pub edges_turned : (P : Segment → Type 0) (p : Vector) (xs : List Vector) (q : Vector) (ys : List Vector) → All P (edges (whole p xs q ys)) → All P (edges (whole q ys p xs))
edges_turned P p xs q ys h =
    let k = subst (All P) (edges_cut p xs q ys) h in
    subst (All P) (sym (edges_cut q ys p xs)) (All-append P (chain q ys p) (chain p xs q) (all_right P (chain p xs q) (chain q ys p) k) (all_left P (chain p xs q) (chain q ys p) k))

pub in_turned : (z : Vector) (p : Vector) (xs : List Vector) (q : Vector) (ys : List Vector) → InPolygon (whole p xs q ys) z → InPolygon (whole q ys p xs) z
in_turned z p xs q ys (inl m) =
    let a = chain p xs q in
    let b = chain q ys p in
    let P = λ (s : Segment). On s z in
    inl (subst (Any P) (sym (edges_cut q ys p xs)) (elim (any_joined P a b (subst (Any P) (edges_cut p xs q ys) m)) [
      | inl i ↦ any_right P b a i
      | inr j ↦ any_left P b a j
    ]))
in_turned z p xs q ys (inr odd) =
    let a = chain p xs q in
    let b = chain q ys p in
    inr (ap (λ ss. parity ss z) (edges_cut q ys p xs) ∙ parity_append b a z ∙ xor_comm (parity b z) (parity a z) ∙ sym (parity_append a b z) ∙ sym (ap (λ ss. parity ss z) (edges_cut p xs q ys)) ∙ odd)
