-- Lists of triangles that make up a polygon, and the same from another vertex on.
use Rattle.std.proofs.Common.{List, ◌∷◌, Contains, length-append, Any, get_or, arith}
use Rattle.std.proofs.lemmas.List.Elements.{All-append, All-contains, All-contains_itself}
use Rattle.std.specs.Prelude.{◌≡◌, ◌⊎◌, pos, ◌+◌, ◌<ℤ◌, List, length, All, Any, Contains}
use Rattle.plan_spec.specs.Polygon.{edges, Inside}
use Rattle.plan_spec.specs.Segment.{Segment, segment}
use Rattle.plan_spec.specs.SimplePolygon.{InPolygon}
use Rattle.plan_spec.specs.Triangulation.{Triangle, corners}
use Rattle.plan_spec.specs.Vector.{Vector, IsPoint, Before, turn}
use Rattle.plan_plane.proofs.Lists.{all_left, all_right}
use Rattle.plan_plane.proofs.Polygon.Cut.{whole}
use Rattle.plan_poly.proofs.EvenOdd.Turned.{edges_turned, in_turned}

-- the segment is a side of the triangle, in the triangle's own direction
abbrev pub HasSide : Segment → Triangle → Type 0
HasSide s t = (s ≡ segment t.a t.b) ⊎ ((s ≡ segment t.b t.c) ⊎ (s ≡ segment t.c t.a))

pub record Triangulated (vs : List Vector) (ts : List Triangle) : Type 0 where
  pub left : All (λ t. pos 0 <ℤ turn t.a t.b t.c) ts
  pub least : All (λ t. Before t.a t.b × Before t.a t.c) ts
  pub vertices : All (λ t. Contains vs t.a × Contains vs t.b × Contains vs t.c) ts
  pub covered : All (λ s. Any (HasSide s) ts) (edges vs)
  pub within : All (λ t. (z : Vector) → IsPoint z → Inside (corners t) z → InPolygon vs z) ts
  pub held : (z : Vector) → IsPoint z → InPolygon vs z → Any (λ t. Inside (corners t) z) ts
  pub count : length ts + 2 ≡ length vs

contains_turned : (p : Vector) (xs : List Vector) (q : Vector) (ys : List Vector) (y : Vector) → Contains (whole p xs q ys) y → Contains (whole q ys p xs) y
contains_turned p xs q ys y =
    let C = Contains (whole q ys p xs) in
    let h = All-contains_itself (whole q ys p xs) in
    All-contains C (whole p xs q ys) y (All-append C (p ∷ xs) (q ∷ ys) (all_right C (q ∷ ys) (p ∷ xs) h) (all_left C (q ∷ ys) (p ∷ xs) h))

pub triangles_turned : (ts : List Triangle) (p : Vector) (xs : List Vector) (q : Vector) (ys : List Vector) → Triangulated (whole p xs q ys) ts → Triangulated (whole q ys p xs) ts
triangles_turned ts p xs q ys d = record {
  left = d.left;
  least = d.least;
  vertices = λ k t within. let c = d.vertices k t within in (contains_turned p xs q ys (get_or ts k t).a c.0, contains_turned p xs q ys (get_or ts k t).b c.1, contains_turned p xs q ys (get_or ts k t).c c.2);
  covered = edges_turned (λ s. Any (HasSide s) ts) p xs q ys d.covered;
  within = λ k t within z hz i. in_turned z p xs q ys (d.within k t within z hz i);
  held = λ z hz m. d.held z hz (in_turned z q ys p xs m);
  count = omega (arith, d.count, length-append xs (q ∷ ys), length-append ys (p ∷ xs));
}
