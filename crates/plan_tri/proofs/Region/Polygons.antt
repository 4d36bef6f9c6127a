-- The triangles of a polygon of spots: they make it up, two fewer than its vertices, each counterclockwise from its least corner, with corners that are vertices.
use Rattle.std.proofs.Common.{◌≡◌, ◌↔◌, ℕ, ◌+◌, ◌<◌, ◌≤◌, pos, ◌<ℤ◌, List, [], ◌∷◌, length, get_or, All, Contains, unsigned_abs, refl, sym, ap, subst, ◌∙◌, arith}
use Rattle.std.proofs.lemmas.List.{append-nil, length-map, get_or-map}
use Rattle.std.proofs.lemmas.List.Elements.{All-nil, All-cons, All-map, All-contains}
use Rattle.plan_exact.proofs.Laws.{linear}
use Rattle.plan_spec.specs.Vector.{Vector, IsPoint, Before, turn}
use Rattle.plan_spec.specs.Polygon.{Inside, IsFromLeast}
use Rattle.plan_spec.specs.SimplePolygon.{InPolygon, TurnsLeft}
use Rattle.plan_spec.specs.Triangulation as spec
use Rattle.plan_spec.specs.Triangulation.{from_least, triangles}
use Rattle.plan_grid.specs.declared.bounds.TheConstants.{MOST_CORNER}
use Rattle.plan_grid.specs.declared.spot.Spot.{Spot}
use Rattle.plan_grid.specs.Spot.{spot_seen, spots_seen, IsWithin}
use Rattle.plan_poly.specs.Polygon.{IsPolygon}
use Rattle.plan_poly.proofs.FromLeast.Arranged.{loop_of}
use Rattle.plan_poly.proofs.FromLeast.ByPlace.{from_least_is}
use Rattle.plan_poly.proofs.Spots.{count_seen, points_seen}
use Rattle.plan_tri.specs.declared.triangle.Triangle.{Triangle}
use Rattle.plan_tri.specs.Triangle.{triangle_seen, triangles_seen, InSome, IsProper}
use Rattle.plan_tri.proofs.Region.Region.{whole}
use Rattle.plan_tri.proofs.Region.Triangulated.{Triangulated}

own_list : (s : List Spot) → IsFromLeast (spots_seen s) → from_least (spots_seen s) ≡ spots_seen s
own_list [] h = refl
own_list (v ∷ vs) h = from_least_is [] (spot_seen v) (spots_seen vs) (points_seen vs) (All-nil (Before (spot_seen v))) h ∙ ap (λ zs. spot_seen v ∷ zs) (append-nil (spots_seen vs))

pub of_polygon : {s : List Spot} → IsPolygon s → Triangulated (spots_seen s) (triangles (spots_seen s))
of_polygon {s} p =
    let vs = spots_seen s in
    whole vs (loop_of p.simple_list) (omega (arith, p.simple_list.at_least_three, count_seen s)) (subst TurnsLeft (sym (own_list s p.least)) p.left) (length vs) (omega arith)

pub region_of : {s : List Spot} (ts : List Triangle) → IsPolygon s → triangles_seen ts ≡ triangles (spots_seen s) → (z : Vector) → IsPoint z → InSome (triangles_seen ts) z ↔ InPolygon (spots_seen s) z
region_of {s} ts p e z hz =
    let d = subst (Triangulated (spots_seen s)) (sym e) (of_polygon p) in
    (λ m. d.within m.0 m.1 m.2 z hz (subst (λ t. Inside (spec.corners t) z) (sym m.3) m.4), d.held z hz)

pub count_of : {s : List Spot} (ts : List Triangle) → IsPolygon s → triangles_seen ts ≡ triangles (spots_seen s) → length ts + 2 ≡ length s
count_of {s} ts p e = omega (arith, (of_polygon p).count, ap length e, length-map ts triangle_seen, count_seen s)

-- ---- each triangle
-- both coordinates are at most 1023
record Near (v : Vector) : Type 0 where
  x : unsigned_abs v.x ≤ 1023
  y : unsigned_abs v.y ≤ 1023

near : {s : List Spot} → IsPolygon s → (t : Spot) → Contains (spots_seen s) (spot_seen t) → IsWithin MOST_CORNER t
near {s} p t has =
    let n = All-contains Near (spots_seen s) (spot_seen t) (All-map Near spot_seen s (λ k d within. let b = p.simple_list.bounded k d within in record { x = b.x; y = b.y })) has in
    record { x = n.x; y = n.y }

one : {s : List Spot} → IsPolygon s → (t : Triangle) → pos 0 <ℤ turn (spot_seen t.a) (spot_seen t.b) (spot_seen t.c) → Before (spot_seen t.a) (spot_seen t.b) × Before (spot_seen t.a) (spot_seen t.c)
    → Contains (spots_seen s) (spot_seen t.a) × Contains (spots_seen s) (spot_seen t.b) × Contains (spots_seen s) (spot_seen t.c) → IsProper t
one {s} p t left least has = record {
  counterclockwise = record {
    triangle = record {
      three = refl;
      bounded = All-cons (IsWithin MOST_CORNER) t.a (t.b ∷ t.c ∷ []) (near p t.a has.0) (All-cons (IsWithin MOST_CORNER) t.b (t.c ∷ []) (near p t.b has.1) (All-cons (IsWithin MOST_CORNER) t.c [] (near p t.c has.2) (All-nil (IsWithin MOST_CORNER))));
      not_flat = λ e. omega (arith, linear, left, e);
    };
    left = left;
  };
  least = All-cons (Before (spot_seen t.a)) (spot_seen t.b) (spot_seen t.c ∷ []) least.0 (All-cons (Before (spot_seen t.a)) (spot_seen t.c) [] least.1 (All-nil (Before (spot_seen t.a))));
}

seen_at : (P : spec.Triangle → Type 0) (ts : List Triangle) (k : ℕ) (d : Triangle) → k < length ts → All P (triangles_seen ts) → P (triangle_seen (get_or ts k d))
seen_at P ts k d within all = subst P (get_or-map triangle_seen ts k d (triangle_seen d) within) (all k (triangle_seen d) (omega (arith, within, length-map ts triangle_seen)))

pub proper_of : {s : List Spot} (ts : List Triangle) → IsPolygon s → triangles_seen ts ≡ triangles (spots_seen s) → All IsProper ts
proper_of {s} ts p e k d within =
    let vs = spots_seen s in
    let r = subst (Triangulated vs) (sym e) (of_polygon p) in
    one p (get_or ts k d)
    (seen_at (λ t. pos 0 <ℤ turn t.a t.b t.c) ts k d within r.left)
    (seen_at (λ t. Before t.a t.b × Before t.a t.c) ts k d within r.least)
    (seen_at (λ t. Contains vs t.a × Contains vs t.b × Contains vs t.c) ts k d within r.vertices)
