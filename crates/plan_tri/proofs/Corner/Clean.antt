-- The edges of a polygon that do not begin or end at its least vertex have no point in the corner: such an edge would have to come in through one of the two edges at v.
use Rattle.std.proofs.Common.{pos, ◌≤ℤ◌, ◌<ℤ◌, List, All, ◌≡◌, ◌⊎◌, inl, inr, arith, [], ◌∷◌, ◌++◌, get_or, sym}
use Rattle.std.proofs.lemmas.List.Elements.{All-nil, All-cons, All-append}
use Rattle.plan_exact.specs.Vectors.{dot, cross}
use Rattle.plan_exact.proofs.Laws.{linear}
use Rattle.plan_exact.proofs.Signs.{le_or_lt, le_of_lt, le_of_eq}
use Rattle.plan_spec.specs.Segment.{segment}
use Rattle.plan_spec.specs.Vector.{Vector, IsPoint, turn, Same}
use Rattle.plan_plane.proofs.Segment.Apart.{off_by}
use Rattle.plan_plane.proofs.Segment.SameSign.{pos_same, nonneg_same}
use Rattle.plan_plane.proofs.Segment.Entry.{entry}
use Rattle.plan_plane.proofs.Polygon.Cut.{chain}
use Rattle.plan_plane.proofs.Polygon.Edges.{Ends, ends_of_segments}
use Rattle.plan_plane.proofs.Polygon.Sides.{on_first, on_last}
use Rattle.plan_plane.proofs.Segment.Between.{Between, between, on, pos_at, swapped}
use Rattle.plan_plane.proofs.Segment.Part.{between_part}
use Rattle.plan_poly.proofs.Loop.Loop.{MeetRight, IsEnd}
use Rattle.plan_tri.proofs.Corner.Corner.{Corner, InCorner, Clean}

-- ---- what is known of the corner
pub record Shape (v w u g : Vector) (mid : List Vector) : Type 0 where
  pub corner : Corner v w u g
  pub at_w : dot g w ≤ℤ pos 0
  pub at_u : dot g u ≤ℤ pos 0
  pub ahead : (z : Vector) → IsPoint z → pos 0 <ℤ dot g z → pos 0 <ℤ turn w u z
  pub points : All IsPoint mid
  pub none : All (λ m. ¬ (InCorner v w u g m)) mid
  pub first_meets : All (MeetRight (segment v w)) (chain w mid u)
  pub last_meets : All (MeetRight (segment u v)) (chain w mid u)

corner_same : {v w u g z e : Vector} → IsPoint z → IsPoint e → Same z e → InCorner v w u g z → InCorner v w u g e
corner_same {v} {w} {u} {g} {z} {e} hz he same i = record {
  after = nonneg_same (cross v w) z e hz he same i.after;
  before = nonneg_same (cross u v) z e hz he same i.before;
  within = pos_same g z e hz he same i.within;
}

-- an end of a segment, not in the corner
abbrev Outside : Vector → Vector → Vector → Vector → Vector → Type 0
Outside v w u g e = IsPoint e × ¬ (InCorner v w u g e)

-- the segment a b comes in between its end e, where g is positive, and its point z
entering : {v w u g : Vector} {mid : List Vector} → Shape v w u g mid → (a b e z : Vector) → Outside v w u g a → Outside v w u g b → Outside v w u g e
    → MeetRight (segment v w) (segment a b) → MeetRight (segment u v) (segment a b) → IsPoint z → InCorner v w u g z → pos 0 <ℤ dot g e → ((c : Vector) → Between e z c → Between a b c) → ⊥
entering {v} {w} {u} {g} k a b e z oa ob oe first last hz i ge part = by (le_or_lt (pos 0) (turn v w e)) (le_or_lt (pos 0) (turn u v e))
  where
    at_end : (c : Vector) → IsPoint c → InCorner v w u g c → IsEnd (segment a b) c → ⊥
    at_end c hc j (inl same) = oa.1 (corner_same hc oa.0 same j)
    at_end c hc j (inr same) = ob.1 (corner_same hc ob.0 same j)

    at : (c : Vector) → IsPoint c → Between e z c → ((turn v w c ≡ pos 0) × (pos 0 ≤ℤ turn u v c)) ⊎ ((turn u v c ≡ pos 0) × (pos 0 ≤ℤ turn v w c)) → ⊥
    at c hc m (inl s) =
        let gc = pos_at hc m g ge i.within in
        let fc = le_of_lt (k.ahead c hc gc) in
        let j : InCorner v w u g c = record { after = le_of_eq (sym s.0); before = s.1; within = gc } in
        at_end c hc j (first c hc (on (on_first v w u c k.corner.turns_left s.0 fc s.1)) (on (part c m))).1
    at c hc m (inr s) =
        let gc = pos_at hc m g ge i.within in
        let fc = le_of_lt (k.ahead c hc gc) in
        let j : InCorner v w u g c = record { after = s.1; before = le_of_eq (sym s.0); within = gc } in
        at_end c hc j (last c hc (on (on_last v w u c k.corner.turns_left s.0 fc s.1)) (on (part c m))).1

    go : (turn v w e <ℤ pos 0) ⊎ (turn u v e <ℤ pos 0) → ⊥
    go s = let n = entry (cross v w) (cross u v) e z oe.0 hz i.after i.before s in at n.at n.point n.between n.side

    by : (pos 0 ≤ℤ turn v w e) ⊎ (turn v w e <ℤ pos 0) → (pos 0 ≤ℤ turn u v e) ⊎ (turn u v e <ℤ pos 0) → ⊥
    by (inl x) (inl y) = oe.1 (record { after = x; before = y; within = ge })
    by (inr x) t = go (inl x)
    by s (inr y) = go (inr y)

clean_one : {v w u g : Vector} {mid : List Vector} → Shape v w u g mid → (a b : Vector) → Outside v w u g a → Outside v w u g b → MeetRight (segment v w) (segment a b) → MeetRight (segment u v) (segment a b) → Clean v w u g (segment a b)
clean_one {v} {w} {u} {g} k a b oa ob first last z hz o i = by (le_or_lt (dot g a) (pos 0)) (le_or_lt (dot g b) (pos 0))
  where
    m : Between a b z
    m = between a b z oa.0 ob.0 hz o

    by : (dot g a ≤ℤ pos 0) ⊎ (pos 0 <ℤ dot g a) → (dot g b ≤ℤ pos 0) ⊎ (pos 0 <ℤ dot g b) → ⊥
    by (inl x) (inl y) = off_by g z (segment a b) hz (oa.0, ob.0) i.within x y o
    by (inr x) t = entering k a b a z oa ob oa first last hz i x (λ c n. between_part m n)
    by s (inr y) = entering k a b b z oa ob ob first last hz i y (λ c n. swapped (between_part (swapped m) n))

pub clean : {v w u g : Vector} {mid : List Vector} → Shape v w u g mid → All (Clean v w u g) (chain w mid u)
clean {v} {w} {u} {g} {mid} k j d within =
    let s = get_or (chain w mid u) j d in
    let e = ends j d within in
    clean_one k s.a s.b e.0 e.1 (k.first_meets j d within) (k.last_meets j d within)
  where
    P : Vector → Type 0
    P = Outside v w u g

    at_w : P w
    at_w = (k.corner.point_w, λ i. let h = i.within in let n = k.at_w in omega (arith, linear))

    at_u : P u
    at_u = (k.corner.point_u, λ i. let h = i.within in let n = k.at_u in omega (arith, linear))

    in_mid : All P mid
    in_mid i e below = (k.points i e below, k.none i e below)

    ends : All (Ends (Outside v w u g)) (chain w mid u)
    ends = ends_of_segments P w (mid ++ u ∷ []) at_w (All-append P mid (u ∷ []) in_mid (All-cons P u [] at_u (All-nil P)))
