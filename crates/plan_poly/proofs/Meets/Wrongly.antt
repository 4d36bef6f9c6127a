-- Whether two edges share a point other than their common vertex: where they are neighbours, whether they fold back there; else whether they meet.
use Rattle.std.proofs.Common.{◌≡◌, ◌↔◌, inl, inr, ℕ, suc, ◌+◌, ◌<◌, ◌≤◌, List, length, get_or, Some, add-one, sym, ap, subst, ◌∙◌, arith}
use Rattle.std.specs.Prelude.{slice_get, IsSomeAnd}
use Rattle.std.proofs.lemmas.Option.{get_or_from_slice_get}
use Rattle.plan_spec.specs.Vector.{Vector, IsPoint, Same}
use Rattle.plan_spec.specs.Segment.{Segment, segment, HasPoints, On}
use Rattle.plan_spec.specs.Polygon.{edges}
use Rattle.plan_spec.specs.SimplePolygon.{OnEdge, IsVertex, IsSharedVertex, ShareAnother}
use Rattle.plan_plane.proofs.Polygon.Numbered.{edge_at, edge_next, edge_last}
use Rattle.plan_plane.proofs.Segment.Reversed.{on_reversed}
use Rattle.plan_poly.specs.Edge.{FoldsBack}
use Rattle.plan_poly.proofs.Loop.Edges.{some_in, some_out}
use Rattle.plan_poly.proofs.Meets.Shares.{neighbours}

on_edge : (vs : List Vector) (i : ℕ) (s : Segment) (z : Vector) → slice_get (edges vs) i ≡ Some s → OnEdge vs i z ↔ On s z
on_edge vs i s z e = (subst (λ o. IsSomeAnd o (λ s. On s z)) e, subst (λ o. IsSomeAnd o (λ s. On s z)) (sym e))

is_vertex : (vs : List Vector) (i : ℕ) (d z : Vector) → i < length vs → IsVertex vs i z ↔ Same z (get_or vs i d)
is_vertex vs i d z within = (some_out (Same z) vs i d within, some_in (Same z) vs i d within)

-- ---- two edges with the vertex m in common, to a and to b
record Neighbours (vs : List Vector) (i j : ℕ) (m a b : Vector) : Type 0 where
  point_m : IsPoint m
  point_a : IsPoint a
  point_b : IsPoint b
  on_first : (z : Vector) → OnEdge vs i z ↔ On (segment m a) z
  on_second : (z : Vector) → OnEdge vs j z ↔ On (segment m b) z
  shared : (z : Vector) → IsSharedVertex vs i j z ↔ Same z m

folds_back : {vs : List Vector} {i j : ℕ} {m a b : Vector} → Neighbours vs i j m a b → ShareAnother vs i j ↔ FoldsBack m a b
folds_back {m = m} {a = a} {b = b} k = (
  λ (z, hz, oi, oj, n). fold.0 (z, hz, (k.on_first z).0 oi, (k.on_second z).0 oj, λ e. n ((k.shared z).1 e)),
  λ f. let s = fold.1 f in (s.0, s.1, (k.on_first s.0).1 s.2, (k.on_second s.0).1 s.3, λ e. s.4 ((k.shared s.0).0 e)),
)
  where
    fold : ((z : Vector) × IsPoint z × On (segment m a) z × On (segment m b) z × ¬ (Same z m)) ↔ FoldsBack m a b
    fold = neighbours m a b k.point_m k.point_a k.point_b

-- what the tests know of edges i and j
pub record EdgePair (vs : List Vector) (i j : ℕ) (s t : Segment) : Type 0 where
  pub three : 3 ≤ length vs
  pub ordered : i < j
  pub within : j < length vs
  pub first : slice_get (edges vs) i ≡ Some s
  pub second : slice_get (edges vs) j ≡ Some t
  pub first_points : HasPoints s
  pub second_points : HasPoints t

reversed_edge : (vs : List Vector) (i : ℕ) (s : Segment) (z : Vector) → slice_get (edges vs) i ≡ Some s → OnEdge vs i z ↔ On (segment s.b s.a) z
reversed_edge vs i s z e = (λ o. on_reversed s.a s.b z ((on_edge vs i s z e).0 o), λ o. (on_edge vs i s z e).1 (on_reversed s.b s.a z o))

-- ---- the vertices of an edge
starts_at : (vs : List Vector) (i : ℕ) (s : Segment) (d : Vector) → slice_get (edges vs) i ≡ Some s → i < length vs → s.a ≡ get_or vs i d
starts_at vs i s d e within = ap (λ g. g.a) (sym (get_or_from_slice_get (edges vs) i s s e) ∙ edge_at vs i s d within)

ends_at : (vs : List Vector) (i : ℕ) (s : Segment) (d : Vector) → slice_get (edges vs) i ≡ Some s → suc i < length vs → s.b ≡ get_or vs (suc i) d
ends_at vs i s d e within = ap (λ g. g.b) (sym (get_or_from_slice_get (edges vs) i s s e) ∙ edge_next vs i s d within)

ends_round : (vs : List Vector) (i : ℕ) (s : Segment) (d : Vector) → slice_get (edges vs) i ≡ Some s → suc i ≡ length vs → s.b ≡ get_or vs 0 d
ends_round vs i s d e last = ap (λ g. g.b) (sym (get_or_from_slice_get (edges vs) i s s e) ∙ edge_last vs i s d last)

-- ---- the three cases
pub next_fold : {vs : List Vector} {i j : ℕ} {s t : Segment} → EdgePair vs i j s t → j ≡ i + 1 → ShareAnother vs i j ↔ FoldsBack s.b s.a t.b
next_fold {vs} {i} {j} {s} {t} k next = folds_back (record {
  point_m = k.first_points.1;
  point_a = k.first_points.0;
  point_b = k.second_points.1;
  on_first = λ z. reversed_edge vs i s z k.first;
  on_second = λ z. subst (λ a. OnEdge vs j z ↔ On (segment a t.b) z) (starts_at vs j t s.b k.second k.within ∙ sym ends) (on_edge vs j t z k.second);
  shared = λ z. (shared_is z, λ e. inl (next, (is_vertex vs j s.b z k.within).1 (subst (Same z) ends e)));
})
  where
    ends : s.b ≡ get_or vs j s.b
    ends = ends_at vs i s s.b k.first (omega (arith, k.within, next)) ∙ ap (λ (n : ℕ). get_or vs n s.b) (sym (next ∙ add-one i))

    shared_is : (z : Vector) → IsSharedVertex vs i j z → Same z s.b
    shared_is z (inl h) = subst (Same z) (sym ends) ((is_vertex vs j s.b z k.within).0 h.1)
    shared_is z (inr h) = absurd (let e = h.0 in let f = h.1 in omega (arith, e, f, next, k.three))

pub round_fold : {vs : List Vector} {i j : ℕ} {s t : Segment} → EdgePair vs i j s t → i ≡ 0 → j + 1 ≡ length vs → ShareAnother vs i j ↔ FoldsBack s.a s.b t.a
round_fold {vs} {i} {j} {s} {t} k first last = folds_back (record {
  point_m = k.first_points.0;
  point_a = k.first_points.1;
  point_b = k.second_points.0;
  on_first = λ z. on_edge vs i s z k.first;
  on_second = λ z. subst (λ m. OnEdge vs j z ↔ On (segment m t.a) z) (ends_round vs j t s.a k.second (omega (arith, last)) ∙ sym starts) (reversed_edge vs j t z k.second);
  shared = λ z. (shared_is z, λ e. inr (first, last, (is_vertex vs 0 s.a z (omega (arith, k.three))).1 (subst (Same z) starts e)));
})
  where
    starts : s.a ≡ get_or vs 0 s.a
    starts = starts_at vs i s s.a k.first (omega (arith, k.ordered, k.within)) ∙ ap (λ (n : ℕ). get_or vs n s.a) first

    shared_is : (z : Vector) → IsSharedVertex vs i j z → Same z s.a
    shared_is z (inl h) = absurd (let e = h.0 in omega (arith, e, first, last, k.three))
    shared_is z (inr h) = subst (Same z) (sym starts) ((is_vertex vs 0 s.a z (omega (arith, k.three))).0 h.2)
