-- The triangles of a simple polygon, wherever its list begins.
use Rattle.plan_poly.proofs.FromLeast.Ready.{to_list, split_last, ready}
use Rattle.plan_tri.proofs.Region.Triangulated.{triangles_turned, Triangulated}
use Rattle.plan_spec.specs.Triangulation.{from_least, triangles_within}
use Rattle.plan_spec.specs.SimplePolygon.{TurnsLeft}
use Rattle.plan_spec.specs.Vector.{Vector, turn}
use Rattle.plan_poly.proofs.Loop.Loop.{Loop}
use Rattle.std.proofs.Common.{ℕ, ◌≤◌, pos, ◌<ℤ◌, List, [], ◌∷◌, subst, sym, arith, length}
use Rattle.plan_plane.proofs.Polygon.Corner.{polygon}
use Rattle.plan_poly.proofs.Loop.Corner.{AtCorner}
use Rattle.plan_tri.proofs.Region.Steps.{region, own_least, same_triangles}

pub turns_left : (v w : Vector) (mid : List Vector) (u : Vector) → TurnsLeft (polygon v w mid u) → pos 0 <ℤ turn u v w
turns_left v w [] u h = h
turns_left v w (m ∷ ms) u h = subst (λ u. pos 0 <ℤ turn u v w) (split_last m ms u) h

pub whole : (vs : List Vector) → Loop vs → 3 ≤ length vs → TurnsLeft (from_least vs) → (k : ℕ) → length vs ≤ k → Triangulated vs (triangles_within k vs)
whole vs l long turns k size =
    let r = ready vs l long in
    let at : AtCorner r.v r.w r.mid r.u = record { loop = r.loop; least = r.first; turns_left = turns_left r.v r.w r.mid r.u (subst TurnsLeft r.from turns) } in
    let list = polygon r.v r.w r.mid r.u in
    subst (Triangulated vs) (sym (same_triangles k vs list r.from (own_least at))) (to_list r (λ us. Triangulated us (triangles_within k list)) (triangles_turned (triangles_within k list)) (region k r.v r.w r.mid r.u (omega (arith, size, r.size)) at))
