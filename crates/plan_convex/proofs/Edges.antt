-- A polygon holds exactly what is on or left of each of its edges, by their numbers.
use Rattle.std.proofs.Common.{ℕ, ◌<◌, sym, subst, List, length, arith}
use Rattle.plan_spec.specs.Vector.{Vector}
use Rattle.plan_spec.specs.Polygon.{Inside, OnOrLeft}
use Rattle.plan_grid.specs.declared.spot.Spot.{Spot}
use Rattle.plan_grid.specs.Spot.{spots_seen}
use Rattle.plan_grid.proofs.Edges.{edge_at, get_or-edges, length-edges}

pub inside_by_number : (vs : List Spot) (z : Vector) → ((k : ℕ) → k < length vs → OnOrLeft z (edge_at vs k)) → Inside (spots_seen vs) z
inside_by_number vs z h k d lt =
    let fits : k < length vs = omega (arith, length-edges vs) in
    subst (OnOrLeft z) (sym (get_or-edges vs k d fits)) (h k fits)

pub left_of_edge : (vs : List Spot) (z : Vector) (k : ℕ) → k < length vs → Inside (spots_seen vs) z → OnOrLeft z (edge_at vs k)
left_of_edge vs z k h inside = let d = edge_at vs k in subst (OnOrLeft z) (get_or-edges vs k d h) (inside k d (omega (arith, length-edges vs)))
