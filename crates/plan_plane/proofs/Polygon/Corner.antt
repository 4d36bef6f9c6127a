-- A polygon by its first vertex v, the next one w, the last one u, and those between: its edges are the two at v and the path from w to u.
use Rattle.std.proofs.Common.{List, [], ◌∷◌, ◌++◌, ◌≡◌, append_assoc, ap, ◌∙◌, All, sym, subst}
use Rattle.std.proofs.lemmas.List.Elements.{All-nil, All-cons, All-append, All-head, All-tail}
use Rattle.plan_spec.specs.Polygon.{edges}
use Rattle.plan_spec.specs.Route.{segments_from}
use Rattle.plan_spec.specs.Segment.{segment, Segment}
use Rattle.plan_spec.specs.Vector.{Vector}
use Rattle.plan_plane.proofs.Lists.{all_left, all_right}
use Rattle.plan_plane.proofs.Polygon.Cut.{chain}
use Rattle.plan_plane.proofs.Polygon.Edges.{segments_append, edges_is}

abbrev pub polygon : Vector → Vector → List Vector → Vector → List Vector
polygon v w mid u = v ∷ (w ∷ (mid ++ u ∷ []))

-- ---- edges
pub chain_more : (w : Vector) (mid : List Vector) (u v : Vector) → segments_from w ((mid ++ u ∷ []) ++ v ∷ []) ≡ chain w mid u ++ segment u v ∷ []
chain_more w mid u v = ap (segments_from w) (append_assoc mid (u ∷ []) (v ∷ [])) ∙ segments_append w mid u (v ∷ [])

pub edges_corner : (v w : Vector) (mid : List Vector) (u : Vector) → edges (polygon v w mid u) ≡ segment v w ∷ (chain w mid u ++ segment u v ∷ [])
edges_corner v w mid u = edges_is v (w ∷ (mid ++ u ∷ [])) ∙ ap (λ ss. segment v w ∷ ss) (chain_more w mid u v)

-- what holds of the three kinds of edges holds of all, and the other way
pub all_corner : (P : Segment → Type 0) (v w : Vector) (mid : List Vector) (u : Vector) → P (segment v w) → All P (chain w mid u) → P (segment u v) → All P (edges (polygon v w mid u))
all_corner P v w mid u first path last =
    subst (All P) (sym (edges_corner v w mid u)) (All-cons P (segment v w) (chain w mid u ++ segment u v ∷ []) first (All-append P (chain w mid u) (segment u v ∷ []) path (All-cons P (segment u v) [] last (All-nil P))))

pub record Edges (P : Segment → Type 0) (v w : Vector) (mid : List Vector) (u : Vector) : Type 0 where
  pub first : P (segment v w)
  pub path : All P (chain w mid u)
  pub last : P (segment u v)

pub corner_edges : (P : Segment → Type 0) (v w : Vector) (mid : List Vector) (u : Vector) → All P (edges (polygon v w mid u)) → Edges P v w mid u
corner_edges P v w mid u h =
    let k = subst (All P) (edges_corner v w mid u) h in
    let t = All-tail P (segment v w) (chain w mid u ++ segment u v ∷ []) k in
    record {
      first = All-head P (segment v w) (chain w mid u ++ segment u v ∷ []) k;
      path = all_left P (chain w mid u) (segment u v ∷ []) t;
      last = All-head P (segment u v) [] (all_right P (chain w mid u) (segment u v ∷ []) t);
    }
