-- The triangles of the two parts of a cut are those of the polygon.
use Rattle.std.proofs.Common.{List, [], ◌∷◌, All, ◌++◌, inl, inr, get_or, refl, ◌≡◌, ◌⊎◌, Contains, sym, subst, Any}
use Rattle.std.proofs.lemmas.List.Elements.{All-nil, All-cons, All-head, All-append, Contains-push, All-tail}
use Rattle.plan_exact.proofs.Signs.{le_of_eq}
use Rattle.plan_exact.specs.Vectors.{cross}
use Rattle.plan_exact.proofs.Vectors.{cross_on_left, cross_on_right}
use Rattle.plan_spec.specs.Polygon.{edges}
use Rattle.plan_spec.specs.Route.{segments_from}
use Rattle.plan_spec.specs.Segment.{segment, Segment, On}
use Rattle.plan_spec.specs.SimplePolygon.{InPolygon}
use Rattle.plan_spec.specs.Triangulation.{Triangle}
use Rattle.plan_spec.specs.Vector.{Vector, IsPoint, LeX}
use Rattle.plan_plane.proofs.Lists.{all_right}
use Rattle.plan_plane.proofs.Pairs.{Pairs}
use Rattle.plan_plane.proofs.Polygon.Corner.{all_corner, polygon}
use Rattle.plan_plane.proofs.Polygon.Cut.{chain, part_one, edges_part, all_one, whole, all_two}
use Rattle.plan_plane.proofs.Polygon.Edges.{ends_of_edges, vertices_on}
use Rattle.plan_plane.proofs.Segment.Same.{Same-swapped}
use Rattle.plan_poly.proofs.EvenOdd.Chains.{closed}
use Rattle.plan_poly.proofs.Loop.Corner.{points_of}
use Rattle.plan_poly.proofs.Loop.Loop.{Differ, meet_reversed}
use Rattle.plan_tri.proofs.Cut.Cutting.{second, AtCut, x_point, after_x, before_x, far, corner_of, list_is, path_clean}
use Rattle.plan_tri.proofs.Cut.Diagonal.{diagonal}
use Rattle.plan_tri.proofs.Cut.Even.{even}
use Rattle.plan_tri.proofs.Cut.Loops.{loop_two, zero_at_x, points_at}
use Rattle.plan_tri.proofs.Cut.OutOfWay.{second_meets_one, off_one, clear_one, right_all, steep, clear_two}
use Rattle.plan_tri.proofs.Cut.VerticesOutside.{second_points, points_one, second_outside, points_two, first_outside}
use Rattle.plan_tri.proofs.Cut.Halves.{Halves, Whole, OutOfWays}
use Rattle.plan_tri.proofs.Cut.Outside.{OneOf, strand_edges, OutOf, OutVertex, AnyVertex, edge_out, edge_out_reversed}
use Rattle.plan_tri.proofs.Ear.Ear.{nonpos}
use Rattle.plan_tri.proofs.Region.Parts.{parities, Fit, of_parts}
use Rattle.plan_tri.proofs.Region.Triangulated.{Triangulated}

-- ---- the edges of the second part are out of the first
-- neighbours differ
consecutive : (x : Vector) (ys : List Vector) → Pairs Differ (x ∷ ys) → All (λ s. Differ s.a s.b) (segments_from x ys)
consecutive x [] h = All-nil (λ s. Differ s.a s.b)
consecutive x (y ∷ ys) h = All-cons (λ s. Differ s.a s.b) (segment x y) (segments_from y ys) (All-head (Differ x) y ys h.0) (consecutive y ys h.1)

second_edges : (P Q : Vector → Type 0) → ((y : Vector) → P y → Q y) → (x : Vector) (after : List Vector) (u v : Vector) → Q x → All P (second after u) → Q v → All (OneOf P Q) (chain x (second after u) v)
second_edges P Q weaker x [] u v qx ps qv = strand_edges P Q weaker x u [] v qx ps qv
second_edges P Q weaker x (b ∷ bs) u v qx ps qv = strand_edges P Q weaker x b (bs ++ u ∷ []) v qx ps qv

edges_outside : {v w : Vector} {before : List Vector} {x : Vector} {after : List Vector} {u : Vector} → AtCut v w before x after u → All (OutOf (part_one v (w ∷ before) x) v x) (chain x (second after u) v)
edges_outside {v} {w} {before} {x} {after} {u} k i d within = by (places i d within)
  where
    P : Vector → Type 0
    P = OutVertex (part_one v (w ∷ before) x)

    Q : Vector → Type 0
    Q = AnyVertex (part_one v (w ∷ before) x) v x

    weaker : (y : Vector) → OutVertex (part_one v (w ∷ before) x) y → AnyVertex (part_one v (w ∷ before) x) v x y
    weaker y o = record { point = o.point; place = inr (inr o.out) }

    out : All (OutVertex (part_one v (w ∷ before) x)) (second after u)
    out j e less = record { point = second_points k j e less; off = off_one k j e less; out = second_outside k j e less }

    at_x : AnyVertex (part_one v (w ∷ before) x) v x x
    at_x = record { point = x_point k; place = inr (inl refl) }

    at_v : AnyVertex (part_one v (w ∷ before) x) v x v
    at_v = record { point = (points_of k.at).v_point; place = inl refl }

    places : All (OneOf (OutVertex (part_one v (w ∷ before) x)) (AnyVertex (part_one v (w ∷ before) x) v x)) (chain x (second after u) v)
    places = second_edges P Q weaker x after u v at_x out at_v

    s : Segment
    s = get_or (chain x (second after u) v) i d

    differ : Differ (get_or (chain x (second after u) v) i d).a (get_or (chain x (second after u) v) i d).b
    differ = consecutive x (second after u ++ v ∷ []) (loop_two k).distinct i d within

    by : OneOf (OutVertex (part_one v (w ∷ before) x)) (AnyVertex (part_one v (w ∷ before) x) v x) (get_or (chain x (second after u) v) i d) → OutOf (part_one v (w ∷ before) x) v x (get_or (chain x (second after u) v) i d)
    by (inl h) = let s = get_or (chain x (second after u) v) i d in edge_out (part_one v (w ∷ before) x) v x s.a s.b (points_one k) h.0 h.1 (λ e. differ (Same-swapped s.b s.a e)) (second_meets_one k i d within)
    by (inr h) =
        let s = get_or (chain x (second after u) v) i d in
        edge_out_reversed (part_one v (w ∷ before) x) v x s.a s.b (edge_out (part_one v (w ∷ before) x) v x s.b s.a (points_one k) h.1 h.0 differ
        (λ j e less. meet_reversed s.a s.b (second_meets_one k i d within j e less)))

-- ---- the two halves
pub halves_of : {v w : Vector} {before : List Vector} {x : Vector} {after : List Vector} {u : Vector} → AtCut v w before x after u → Halves v w u x (far w u x) (part_one v (w ∷ before) x) (part_one x (second after u) v)
halves_of {v} {w} {before} {x} {after} {u} k = record {
  corner = corner_of k;
  point_x = x_point k;
  after = after_x k;
  before = before_x k;
  at_x = le_of_eq (sym (zero_at_x w u x));
  steep = steep k;
  vertices_one = all_one IsPoint v (w ∷ before) x (second after u) (points_at k);
  points_one = points_one k;
  closed_one = closed (part_one v (w ∷ before) x);
  right_one = ends_of_edges (LeX v) (part_one v (w ∷ before) x) (all_one (LeX v) v (w ∷ before) x (second after u) (right_all k));
  clear_one = clear_one k;
  outside_two = places;
  points_two = points_two k;
  closed_two = closed (part_one x (second after u) v);
  outside_one = subst (All D) (sym (edges_part x (second after u) v)) (All-append D (chain x (second after u) v) (segment v x ∷ []) (λ i d within. inr (edges_outside k i d within)) (All-cons D (segment v x) [] (inl refl) (All-nil D)));
  has_diagonal = subst (λ es. Contains es (segment v x)) (sym (edges_part x (second after u) v)) (Contains-push (chain x (second after u) v) (segment v x));
}
  where
    D : Segment → Type 0
    D s = (s ≡ segment v x) ⊎ OutOf (part_one v (w ∷ before) x) v x s

    P : Vector → Type 0
    P y = (y ≡ v) ⊎ ((y ≡ x) ⊎ ¬ (InPolygon (part_one x (second after u) v) y))

    places : All P (part_one v (w ∷ before) x)
    places = All-cons P v ((w ∷ before) ++ x ∷ []) (inl refl) (All-append P (w ∷ before) (x ∷ []) (λ i d within. inr (inr (first_outside k i d within))) (All-cons P x [] (inr (inl refl)) (All-nil P)))

pub whole_of : {v w : Vector} {before : List Vector} {x : Vector} {after : List Vector} {u : Vector} → AtCut v w before x after u → Whole v w u x (far w u x) (whole v (w ∷ before) x (second after u)) (part_one v (w ∷ before) x) (part_one x (second after u) v)
whole_of {v} {w} {before} {x} {after} {u} k = record {
  points = ends_of_edges IsPoint all (points_at k);
  closed = closed all;
  clear = subst (λ vs. All W (edges vs)) (list_is v w before x after u) (all_corner W v w (before ++ x ∷ after) u
      (inr (inl (record { first = nonpos (cross_on_left v w); second = nonpos (cross_on_right v w) })))
      (λ i d within. inl (path_clean k i d within))
      (inr (inr (record { first = nonpos (cross_on_left u v); second = nonpos (cross_on_right u v) }))));
  clear_two = clear_two k;
  vertices_two = all_two IsPoint v (w ∷ before) x (second after u) (points_at k);
  parities = parities v (w ∷ before) x (second after u);
  has_v = All-head on v ((w ∷ before) ++ x ∷ second after u) (vertices_on all (points_at k));
  has_x = All-head on x (second after u) (all_right on (w ∷ before) (x ∷ second after u) (All-tail on v ((w ∷ before) ++ x ∷ second after u) (vertices_on all (points_at k))));
}
  where
    all : List Vector
    all = whole v (w ∷ before) x (second after u)

    W : Segment → Type 0
    W = OutOfWays v w u (far w u x) (cross v w) (cross u v)

    on : Vector → Type 0
    on y = Any (λ s. On s y) (edges (whole v (w ∷ before) x (second after u)))

-- ---- the triangles of the parts are those of the whole
pub cut : {v w : Vector} {before : List Vector} {x : Vector} {after : List Vector} {u : Vector} → AtCut v w before x after u → (ts us : List Triangle) → Triangulated (part_one v (w ∷ before) x) ts → Triangulated (part_one x (second after u) v) us → Triangulated (polygon v w (before ++ x ∷ after) u) (ts ++ us)
cut {v} {w} {before} {x} {after} {u} k ts us d e =
    let h = halves_of k in
    let fit : Fit v (w ∷ before) x (second after u) = record { even = λ z hz m off. even h d z hz m off; diagonal = λ z hz o. diagonal h (whole_of k) e z hz o } in
    subst (λ vs. Triangulated vs (ts ++ us)) (sym (list_is v w before x after u)) (of_parts v (w ∷ before) x (second after u) ts us fit d e)
