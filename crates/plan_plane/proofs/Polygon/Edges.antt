-- The edges of a list of vertices are the segments of a walk that comes back; where the list is cut, the walk is appended.
use Rattle.std.proofs.Common.{◌≡◌, List, [], ◌∷◌, ◌++◌, refl, ap, append_assoc, ◌∙◌, All, sym, subst, Any, get_or}
use Rattle.std.proofs.lemmas.List.Elements.{All-nil, All-cons, All-head, All-tail, All-append}
use Rattle.plan_spec.specs.Polygon.{edges_to, edges}
use Rattle.plan_spec.specs.Route.{segments_from}
use Rattle.plan_spec.specs.Segment.{segment, Segment, On}
use Rattle.plan_spec.specs.Vector.{Vector, IsPoint}
use Rattle.plan_plane.proofs.Lists.{any_here, any_there}
use Rattle.plan_plane.proofs.Segment.Between.{on, between_first}

-- ---- the edges as a walk
edges_to_is : (f a : Vector) (vs : List Vector) → edges_to f (a ∷ vs) ≡ segments_from a (vs ++ f ∷ [])
edges_to_is f a [] = refl
edges_to_is f a (b ∷ vs) = ap (λ ss. segment a b ∷ ss) (edges_to_is f b vs)

pub edges_is : (a : Vector) (vs : List Vector) → edges (a ∷ vs) ≡ segments_from a (vs ++ a ∷ [])
edges_is a vs = edges_to_is a a vs

pub segments_append : (a : Vector) (xs : List Vector) (x : Vector) (ys : List Vector) → segments_from a (xs ++ x ∷ ys) ≡ segments_from a (xs ++ x ∷ []) ++ segments_from x ys
segments_append a [] x ys = refl
segments_append a (b ∷ xs) x ys = ap (λ ss. segment a b ∷ ss) (segments_append b xs x ys)

-- from p over xs to q, and from q over ys back to p
pub edges_cut : (p : Vector) (xs : List Vector) (q : Vector) (ys : List Vector) → edges (p ∷ (xs ++ q ∷ ys)) ≡ segments_from p (xs ++ q ∷ []) ++ segments_from q (ys ++ p ∷ [])
edges_cut p xs q ys = edges_is p (xs ++ q ∷ ys) ∙ ap (segments_from p) (append_assoc xs (q ∷ ys) (p ∷ [])) ∙ segments_append p xs q (ys ++ p ∷ [])

-- ---- what vertices have, the ends of the edges have
abbrev pub Ends : (Vector → Type 0) → Segment → Type 0
Ends P s = P s.a × P s.b

pub ends_of_segments : (P : Vector → Type 0) (a : Vector) (vs : List Vector) → P a → All P vs → All (Ends P) (segments_from a vs)
ends_of_segments P a [] ha h = All-nil (Ends P)
ends_of_segments P a (b ∷ vs) ha h =
    let hb = All-head P b vs h in
    All-cons (Ends P) (segment a b) (segments_from b vs) (ha, hb) (ends_of_segments P b vs hb (All-tail P b vs h))

pub ends_of_edges : (P : Vector → Type 0) (vs : List Vector) → All P vs → All (Ends P) (edges vs)
ends_of_edges P [] h = All-nil (Ends P)
ends_of_edges P (a ∷ vs) h =
    let ha = All-head P a vs h in
    subst (All (Ends P)) (sym (edges_is a vs)) (ends_of_segments P a (vs ++ a ∷ []) ha (All-append P vs (a ∷ []) (All-tail P a vs h) (All-cons P a [] ha (All-nil P))))

-- ---- each vertex is on an edge
starts : (a : Vector) (vs : List Vector) (f : Vector) → All IsPoint (a ∷ vs) → All (λ y. Any (λ s. On s y) (segments_from a (vs ++ f ∷ []))) (a ∷ vs)
starts a [] f h =
    let P = λ (y : Vector). Any (λ s. On s y) (segment a f ∷ []) in
    All-cons P a [] (any_here (λ s. On s a) (segment a f) [] (on (between_first a f (All-head IsPoint a [] h)))) (All-nil P)
starts a (b ∷ vs) f h =
    let rest = segments_from b (vs ++ f ∷ []) in
    let P = λ (y : Vector). Any (λ s. On s y) (segment a b ∷ rest) in
    let tail = starts b vs f (All-tail IsPoint a (b ∷ vs) h) in
    All-cons P a (b ∷ vs) (any_here (λ s. On s a) (segment a b) rest (on (between_first a b (All-head IsPoint a (b ∷ vs) h)))) (λ k d within. any_there (λ s. On s (get_or (b ∷ vs) k d)) (segment a b) rest (tail k d within))

pub vertices_on : (vs : List Vector) → All IsPoint vs → All (λ y. Any (λ s. On s y) (edges vs)) vs
vertices_on [] h = All-nil (λ y. Any (λ s. On s y) [])
vertices_on (a ∷ vs) h = subst (λ es. All (λ y. Any (λ s. On s y) es) (a ∷ vs)) (sym (edges_is a vs)) (starts a vs a h)
