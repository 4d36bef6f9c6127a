-- The edges of a polygon by number: where each starts and ends.
use Rattle.std.proofs.Common.{ℕ, ◌<◌, List, length, get_or, sym, subst, ◌≡◌, suc, arith, ◌⊎◌, inl, inr, ◌≤◌, All, eq-or-lt_of_le}
use Rattle.std.proofs.lemmas.Option.{slice_get-get_or}
use Rattle.std.specs.Prelude.{slice_get, IsSomeAnd}
use Rattle.plan_spec.specs.Polygon.{edges}
use Rattle.plan_spec.specs.Segment.{segment, On}
use Rattle.plan_spec.specs.Vector.{Vector, IsPoint, Same}
use Rattle.plan_plane.proofs.Polygon.Edges.{ends_of_edges}
use Rattle.plan_plane.proofs.Polygon.Numbered.{edge_next, edge_last, length_edges}
use Rattle.plan_plane.proofs.Segment.Between.{on, between_first, between_second}
use Rattle.plan_plane.proofs.Segment.Same.{on_same}
use Rattle.plan_poly.proofs.Loop.Loop.{IsEnd}

pub some_in : {X : Type 0} (P : X → Type 0) (xs : List X) (i : ℕ) (d : X) → i < length xs → P (get_or xs i d) → IsSomeAnd (slice_get xs i) P
some_in P xs i d within h = subst (λ o. IsSomeAnd o P) (sym (slice_get-get_or xs i d within)) h

pub some_out : {X : Type 0} (P : X → Type 0) (xs : List X) (i : ℕ) (d : X) → i < length xs → IsSomeAnd (slice_get xs i) P → P (get_or xs i d)
some_out P xs i d within h = subst (λ o. IsSomeAnd o P) (slice_get-get_or xs i d within) h

-- ---- the edge numbered i
-- it starts at the vertex i
pub starts : (vs : List Vector) (i : ℕ) (d : Vector) → All IsPoint vs → i < length vs → On (get_or (edges vs) i (segment d d)) (get_or vs i d)
starts vs i d h within = by (eq-or-lt_of_le (more within))
  where
    more : i < length vs → suc i ≤ length vs
    more w = omega arith

    by : (suc i ≡ length vs) ⊎ (suc i < length vs) → On (get_or (edges vs) i (segment d d)) (get_or vs i d)
    by (inl e) = subst (λ s. On s (get_or vs i d)) (sym (edge_last vs i (segment d d) d e)) (on (between_first (get_or vs i d) (get_or vs 0 d) (h i d within)))
    by (inr l) = subst (λ s. On s (get_or vs i d)) (sym (edge_next vs i (segment d d) d l)) (on (between_first (get_or vs i d) (get_or vs (suc i) d) (h i d within)))

pub ends_next : (vs : List Vector) (i : ℕ) (d : Vector) → All IsPoint vs → suc i < length vs → On (get_or (edges vs) i (segment d d)) (get_or vs (suc i) d)
ends_next vs i d h l = subst (λ s. On s (get_or vs (suc i) d)) (sym (edge_next vs i (segment d d) d l)) (on (between_second (get_or vs i d) (get_or vs (suc i) d) (h (suc i) d l)))

pub ends_last : (vs : List Vector) (i : ℕ) (d : Vector) → All IsPoint vs → suc i ≡ length vs → On (get_or (edges vs) i (segment d d)) (get_or vs 0 d)
ends_last vs i d h e = subst (λ s. On s (get_or vs 0 d)) (sym (edge_last vs i (segment d d) d e)) (on (between_second (get_or vs i d) (get_or vs 0 d) (h 0 d (omega (arith, e)))))

pub start_end : (vs : List Vector) (i : ℕ) (d z : Vector) → i < length vs → Same z (get_or vs i d) → IsEnd (get_or (edges vs) i (segment d d)) z
start_end vs i d z within e = by (eq-or-lt_of_le (more within))
  where
    more : i < length vs → suc i ≤ length vs
    more w = omega arith

    by : (suc i ≡ length vs) ⊎ (suc i < length vs) → IsEnd (get_or (edges vs) i (segment d d)) z
    by (inl f) = subst (λ s. IsEnd s z) (sym (edge_last vs i (segment d d) d f)) (inl e)
    by (inr l) = subst (λ s. IsEnd s z) (sym (edge_next vs i (segment d d) d l)) (inl e)

-- ---- vertices differ
pub moved_on : (vs : List Vector) (i : ℕ) (d z u : Vector) → All IsPoint vs → i < length vs → IsPoint z → IsPoint u → Same z u → On (get_or (edges vs) i (segment d d)) z → On (get_or (edges vs) i (segment d d)) u
moved_on vs i d z u h within hz hu e o =
    let p = ends_of_edges IsPoint vs h i (segment d d) (omega (arith, within, length_edges vs)) in
    let s = get_or (edges vs) i (segment d d) in
    on_same s.a s.b z u p.0 p.1 hz hu e o
