-- A loop from another vertex on, and each part of a loop that is cut, is a loop; a vertex of a loop that is on an edge is an end of it.
use Rattle.std.proofs.Common.{List, ◌∷◌, sym, subst, [], ◌++◌, append_assoc, All, get_or, inl, refl, ◌≡◌, ◌∙◌}
use Rattle.std.proofs.lemmas.List.Elements.{All-append, All-nil, All-cons, All-head}
use Rattle.plan_spec.specs.Polygon.{edges}
use Rattle.plan_spec.specs.Route.{segments_from}
use Rattle.plan_spec.specs.Segment.{segment, Segment, On}
use Rattle.plan_spec.specs.Vector.{Vector, IsPoint}
use Rattle.plan_plane.proofs.Lists.{all_left, all_right}
use Rattle.plan_plane.proofs.Pairs.{Pairs, pairs_swapped, Across, pairs_left, pairs_join}
use Rattle.plan_plane.proofs.Polygon.Cut.{whole, chain, part_one, edges_part, all_one}
use Rattle.plan_plane.proofs.Polygon.Edges.{edges_cut, edges_is}
use Rattle.plan_plane.proofs.Segment.Between.{on, between_first}
use Rattle.plan_poly.proofs.Loop.Loop.{MeetRight, Loop, Differ, differ_swapped, meet_swapped, meet_reversed, IsEnd}

-- ---- from another vertex
pub rotated : (p : Vector) (xs : List Vector) (q : Vector) (ys : List Vector) → Loop (whole p xs q ys) → Loop (whole q ys p xs)
rotated p xs q ys l = record {
  points = All-append IsPoint (q ∷ ys) (p ∷ xs) (all_right IsPoint (p ∷ xs) (q ∷ ys) l.points) (all_left IsPoint (p ∷ xs) (q ∷ ys) l.points);
  distinct = pairs_swapped Differ differ_swapped (p ∷ xs) (q ∷ ys) l.distinct;
  apart = subst (Pairs MeetRight) (sym (edges_cut q ys p xs)) (pairs_swapped MeetRight meet_swapped (chain p xs q) (chain q ys p) (subst (Pairs MeetRight) (edges_cut p xs q ys) l.apart));
}

-- ---- one part
pub loop_part : (p : Vector) (xs : List Vector) (q : Vector) (ys : List Vector) → Loop (whole p xs q ys) → All (MeetRight (segment p q)) (chain p xs q) → Loop (part_one p xs q)
loop_part p xs q ys l m = record {
  points = all_one IsPoint p xs q ys l.points;
  distinct = pairs_left Differ (p ∷ (xs ++ q ∷ [])) ys (subst (λ vs. Pairs Differ (p ∷ vs)) (sym (append_assoc xs (q ∷ []) ys)) l.distinct);
  apart = subst (Pairs MeetRight) (sym (edges_part p xs q)) (pairs_join MeetRight (chain p xs q) (segment q p ∷ []) (pairs_left MeetRight (chain p xs q) (chain q ys p) (subst (Pairs MeetRight) (edges_cut p xs q ys) l.apart)) (All-nil (MeetRight (segment q p)), tt) last);
}
  where
    last : Across MeetRight (chain p xs q) (segment q p ∷ [])
    last k d within = All-cons (MeetRight (get_or (chain p xs q) k d)) (segment q p) [] (meet_swapped (segment q p) (get_or (chain p xs q) k d) (meet_reversed p q (m k d within))) (All-nil (MeetRight (get_or (chain p xs q) k d)))

-- ---- vertices on edges
abbrev pub EndWhereOn : Vector → Segment → Type 0
EndWhereOn y s = On s y → IsEnd s y

first_ends : (a : Vector) (vs : List Vector) → Loop (a ∷ vs) → All (EndWhereOn a) (edges (a ∷ vs))
first_ends a [] l = All-cons (EndWhereOn a) (segment a a) [] (λ o. inl (refl, refl)) (All-nil (EndWhereOn a))
first_ends a (b ∷ vs) l =
    let e = edges_is a (b ∷ vs) in
    let rest = segments_from b (vs ++ a ∷ []) in
    let ha = All-head IsPoint a (b ∷ vs) l.points in
    let m = (subst (Pairs MeetRight) e l.apart).0 in
    subst (All (EndWhereOn a)) (sym e) (All-cons (EndWhereOn a) (segment a b) rest (λ o. inl (refl, refl)) (λ k d within o. (m k d within a ha (on (between_first a b ha)) o).1))

pub vertex_ends : (p : Vector) (xs : List Vector) (q : Vector) (ys : List Vector) → Loop (whole p xs q ys) → All (EndWhereOn q) (edges (whole p xs q ys))
vertex_ends p xs q ys l =
    let h = subst (All (EndWhereOn q)) (edges_cut q ys p xs) (first_ends q (ys ++ p ∷ xs) (rotated p xs q ys l)) in
    let P = EndWhereOn q in
    subst (All P) (sym (edges_cut p xs q ys)) (All-append P (chain p xs q) (chain q ys p) (all_right P (chain q ys p) (chain p xs q) h) (all_left P (chain q ys p) (chain p xs q) h))

-- what holds of each vertex at which the list can be parted holds of all
parted : (R : Vector → Type 0) (before xs vs : List Vector) → vs ≡ before ++ xs → ((pre : List Vector) (y : Vector) (bs : List Vector) → vs ≡ pre ++ y ∷ bs → R y) → All R xs
parted R before [] vs e f = All-nil R
parted R before (x ∷ xs) vs e f = All-cons R x xs (f before x xs e) (parted R (before ++ x ∷ []) xs vs (e ∙ sym (append_assoc before (x ∷ []) xs)) f)

pub vertices_end : (vs : List Vector) → Loop vs → All (λ y. All (EndWhereOn y) (edges vs)) vs
vertices_end vs l = parted (λ y. All (EndWhereOn y) (edges vs)) [] vs vs refl at
  where
    at : (pre : List Vector) (y : Vector) (bs : List Vector) → vs ≡ pre ++ y ∷ bs → All (EndWhereOn y) (edges vs)
    at [] y bs e = subst (λ us. All (EndWhereOn y) (edges us)) (sym e) (first_ends y bs (subst Loop e l))
    at (p ∷ xs) y bs e = subst (λ us. All (EndWhereOn y) (edges us)) (sym e) (vertex_ends p xs y bs (subst Loop e l))
