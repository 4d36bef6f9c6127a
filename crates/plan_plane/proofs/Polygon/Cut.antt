-- A polygon that is cut between the vertices p and q: the two parts, their vertices and their edges.
use Rattle.std.proofs.Common.{List, ◌∷◌, ◌++◌, [], ◌≡◌, All}
use Rattle.std.proofs.lemmas.List.Elements.{All-nil, All-cons, All-head, All-tail, All-append}
use Rattle.plan_spec.specs.Polygon.{edges}
use Rattle.plan_spec.specs.Route.{segments_from}
use Rattle.plan_spec.specs.Segment.{Segment, segment}
use Rattle.plan_spec.specs.Vector.{Vector}
use Rattle.plan_plane.proofs.Lists.{all_left, all_right}
use Rattle.plan_plane.proofs.Polygon.Edges.{edges_cut}

-- ---- the lists of a cut
abbrev pub whole : Vector → List Vector → Vector → List Vector → List Vector
whole p xs q ys = p ∷ (xs ++ q ∷ ys)

abbrev pub part_one : Vector → List Vector → Vector → List Vector
part_one p xs q = p ∷ (xs ++ q ∷ [])

-- the second part is the first one, read from q
abbrev pub chain : Vector → List Vector → Vector → List Segment
chain p xs q = segments_from p (xs ++ q ∷ [])

pub edges_part : (p : Vector) (xs : List Vector) (q : Vector) → edges (part_one p xs q) ≡ chain p xs q ++ segment q p ∷ []
edges_part p xs q = edges_cut p xs q []

pub all_one : (R : Vector → Type 0) (p : Vector) (xs : List Vector) (q : Vector) (ys : List Vector) → All R (whole p xs q ys) → All R (part_one p xs q)
all_one R p xs q ys h =
    let t = All-tail R p (xs ++ q ∷ ys) h in
    let r = all_right R xs (q ∷ ys) t in
    All-cons R p (xs ++ q ∷ []) (All-head R p (xs ++ q ∷ ys) h) (All-append R xs (q ∷ []) (all_left R xs (q ∷ ys) t) (All-cons R q [] (All-head R q ys r) (All-nil R)))

pub all_two : (R : Vector → Type 0) (p : Vector) (xs : List Vector) (q : Vector) (ys : List Vector) → All R (whole p xs q ys) → All R (part_one q ys p)
all_two R p xs q ys h =
    let r = all_right R xs (q ∷ ys) (All-tail R p (xs ++ q ∷ ys) h) in
    All-cons R q (ys ++ p ∷ []) (All-head R q ys r) (All-append R ys (p ∷ []) (All-tail R q ys r) (All-cons R p [] (All-head R p (xs ++ q ∷ ys) h) (All-nil R)))
