-- What a polygon covers of an edge, edge by edge of the polygon: the sides of it passed so far leave a part, and each narrows the part by where its own value is positive.
use Rattle.std.proofs.Common.{◌≡◌, ◌↔◌, ℕ, ◌+◌, ◌<◌, ◌≤◌, List, length, Some, None, sym, subst, arith, below_more}
use Rattle.plan_exact.proofs.Laws.{linear}
use Rattle.plan_exact.proofs.Vectors.{det_combination_3}
use Rattle.plan_spec.specs.Vector.{Vector, turn}
use Rattle.plan_spec.specs.Boundary.{IsLeft, StrictlyInside}
use Rattle.plan_spec.specs.Weights.{Weights, IsInner, weighted}
use Rattle.plan_grid.specs.declared.spot.Spot.{Spot}
use Rattle.plan_convex.specs.declared.part.Part.{Part}
use Rattle.plan_grid.specs.Spot.{spots_seen}
use Rattle.plan_grid.proofs.Edges.{edge_at, get_or-edges, length-edges}
use Rattle.plan_convex.specs.Parameter.{fraction_at}
use Rattle.plan_convex.specs.Part.{InOpen, value_at, IsWherePositive}

value_is : (a b p q : Vector) (z : Weights) → turn p q (weighted a b z) ≡ value_at (turn p q a) (turn p q b) z
value_is a b p q z = det_combination_3 z.s z.t a b p q

-- by the numbers of the polygon's edges
pub strictly_by_number : (vs : List Spot) (z : Vector) → ((k : ℕ) → k < length vs → IsLeft z (edge_at vs k)) → StrictlyInside (spots_seen vs) z
strictly_by_number vs z h k d lt =
    let fits : k < length vs = omega (arith, length-edges vs) in
    subst (IsLeft z) (sym (get_or-edges vs k d fits)) (h k fits)

pub left_of_each : (vs : List Spot) (z : Vector) (k : ℕ) → k < length vs → StrictlyInside (spots_seen vs) z → IsLeft z (edge_at vs k)
left_of_each vs z k h inside = let d = edge_at vs k in subst (IsLeft z) (get_or-edges vs k d h) (inside k d (omega (arith, length-edges vs)))

-- the part is what the first edges leave
abbrev pub Leaves : Vector → Vector → List Spot → ℕ → Part → Type 0
Leaves a b vs i p = (z : Weights) → IsInner z → ((k : ℕ) → k < i → IsLeft (weighted a b z) (edge_at vs k)) ↔ InOpen p (fraction_at z)

pub leaves_more : (a b : Vector) (vs : List Spot) (i : ℕ) (p q : Part) → Leaves a b vs i p → IsWherePositive p (turn (edge_at vs i).a (edge_at vs i).b a) (turn (edge_at vs i).a (edge_at vs i).b b) (Some q) → Leaves a b vs (i + 1) q
leaves_more a b vs i p q h w z inner = (
  λ all. let here = all i (omega arith) in (w z inner).0 ((h z inner).0 (λ k less. all k (omega arith)), omega (arith, linear, value_is a b (edge_at vs i).a (edge_at vs i).b z)),
  λ m. let n = (w z inner).1 m in let here = n.1 in below_more (λ k. IsLeft (weighted a b z) (edge_at vs k)) i ((h z inner).1 n.0) (omega (arith, linear, value_is a b (edge_at vs i).a (edge_at vs i).b z)),
)

pub leaves_none : (a b : Vector) (vs : List Spot) (i : ℕ) (p : Part) → i < length vs → IsWherePositive p (turn (edge_at vs i).a (edge_at vs i).b a) (turn (edge_at vs i).a (edge_at vs i).b b) None → (z : Weights) → IsInner z → ¬ (StrictlyInside (spots_seen vs) (weighted a b z))
leaves_none a b vs i p within w z inner inside = let here = left_of_each vs (weighted a b z) i within inside in w z inner (omega (arith, linear, value_is a b (edge_at vs i).a (edge_at vs i).b z))

pub leaves_all : (a b : Vector) (vs : List Spot) (i : ℕ) (p : Part) → length vs ≤ i → i ≤ length vs → Leaves a b vs i p → (z : Weights) → IsInner z → StrictlyInside (spots_seen vs) (weighted a b z) ↔ InOpen p (fraction_at z)
leaves_all a b vs i p long upto h z inner = (
  λ inside. (h z inner).0 (λ k less. left_of_each vs (weighted a b z) k (omega arith) inside),
  λ m. strictly_by_number vs (weighted a b z) (λ k less. (h z inner).1 m k (omega arith)),
)
