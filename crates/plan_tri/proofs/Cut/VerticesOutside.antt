-- No vertex of the one part of a cut is in the other: beside v it is seen of one point, and from there along the edges.
use Rattle.std.proofs.Common.{List, ◌∷◌, All, [], ◌++◌, ◌≡◌, false, Contains, pos, ℤ, ◌<ℤ◌, arith, inl, inr, get_or, sym, subst, refl}
use Rattle.std.proofs.lemmas.List.Elements.{All-nil, All-cons, All-tail, All-head, Contains-push}
use Rattle.plan_exact.specs.Vectors.{dot, cross, opposite}
use Rattle.plan_exact.proofs.Laws.{linear}
use Rattle.plan_exact.proofs.Signs.{le_of_lt}
use Rattle.plan_exact.proofs.Vectors.{cross_on_left, cross_on_right, det_swapped_right, dot_opposite, det_turned}
use Rattle.plan_spec.specs.Parity.{parity}
use Rattle.plan_spec.specs.Polygon.{edges}
use Rattle.plan_spec.specs.Route.{segments_from, segments}
use Rattle.plan_spec.specs.Segment.{segment, Segment, HasPoints, On}
use Rattle.plan_spec.specs.SimplePolygon.{InPolygon}
use Rattle.plan_spec.specs.Vector.{Vector, Same, IsPoint, turn, LeX}
use Rattle.plan_plane.proofs.Lists.{all_left, all_right}
use Rattle.plan_plane.proofs.Near.{step, step_point, step_between, along_zero}
use Rattle.plan_plane.proofs.Polygon.Corner.{chain_more}
use Rattle.plan_plane.proofs.Polygon.Cut.{part_one, all_one, all_two, chain}
use Rattle.plan_plane.proofs.Polygon.Edges.{ends_of_edges}
use Rattle.plan_plane.proofs.Segment.Apart.{From, from_near}
use Rattle.plan_plane.proofs.Segment.Between.{on}
use Rattle.plan_plane.proofs.Segment.Reversed.{on_reversed}
use Rattle.plan_plane.proofs.Segment.Same.{on_same, Same-swapped}
use Rattle.plan_plane.proofs.Segment.SameSign.{zero_same}
use Rattle.plan_poly.proofs.EvenOdd.Chains.{closed}
use Rattle.plan_poly.proofs.Loop.Corner.{points_of, Points}
use Rattle.plan_poly.proofs.Loop.Loop.{MeetRight, Differ}
use Rattle.plan_tri.proofs.Corner.Beside.{beside}
use Rattle.plan_tri.proofs.Corner.Corner.{InCorner}
use Rattle.plan_tri.proofs.Cut.Cutting.{AtCut, second, far, corner_of, after_x, apart_of}
use Rattle.plan_tri.proofs.Cut.Even.{even}
use Rattle.plan_tri.proofs.Cut.Loops.{points_at}
use Rattle.plan_tri.proofs.Cut.OutOfWay.{first_meets_two, off_two, clear_back, right_all, steep_back, second_meets_one, off_one, clear_one, left_u, steep}
use Rattle.plan_tri.proofs.Cut.Outside.{Off, OnlyAt, outside}

-- ---- segments between some of the vertices of a walk
prefix : (P : Segment → Type 0) (p : Vector) (ps qs : List Vector) → All P (segments_from p (ps ++ qs)) → All P (segments_from p ps)
prefix P p [] qs h = All-nil P
prefix P p (q ∷ ps) qs h = All-cons P (segment p q) (segments_from q ps) (All-head P (segment p q) (segments_from q (ps ++ qs)) h) (prefix P q ps qs (All-tail P (segment p q) (segments_from q (ps ++ qs)) h))

pub inner_segments : (P : Segment → Type 0) (x : Vector) (ys qs : List Vector) → All P (segments_from x (ys ++ qs)) → All P (segments ys)
inner_segments P x [] qs h = All-nil P
inner_segments P x (y ∷ ys) qs h = prefix P y ys qs (All-tail P (segment x y) (segments_from y (ys ++ qs)) h)

outside_list : (vs ys : List Vector) → All HasPoints (edges vs) → All IsPoint ys → All (Off vs) ys → All (λ s. All (MeetRight s) (edges vs)) (segments ys) → (e o y : Vector) → Contains ys e → IsPoint o → IsPoint y → ¬ (Same o e) → OnlyAt (edges vs) e o → On (segment e o) y → ¬ (Same y o) → parity (edges vs) y ≡ false
    → All (λ q. ¬ (InPolygon vs q)) ys
outside_list vs [] h points off meets e o y has ho hy differ only way apart even = All-nil (λ q. ¬ (InPolygon vs q))
outside_list vs (p ∷ ps) h points off meets e o y has ho hy differ only way apart even =
    outside vs p ps (record { edge_points = h; points = points; off = off; meets = meets }) e o y has ho hy differ only way apart even

pub first_points : {v w : Vector} {before : List Vector} {x : Vector} {after : List Vector} {u : Vector} → AtCut v w before x after u → All IsPoint (w ∷ before)
first_points {v} {w} {before} {x} {after} {u} k = all_left IsPoint (w ∷ before) (x ∷ second after u) (All-tail IsPoint v ((w ∷ before) ++ x ∷ second after u) (points_at k))

pub second_points : {v w : Vector} {before : List Vector} {x : Vector} {after : List Vector} {u : Vector} → AtCut v w before x after u → All IsPoint (second after u)
second_points {v} {w} {before} {x} {after} {u} k = All-tail IsPoint x (second after u) (all_right IsPoint (w ∷ before) (x ∷ second after u) (All-tail IsPoint v ((w ∷ before) ++ x ∷ second after u) (points_at k)))

pub points_one : {v w : Vector} {before : List Vector} {x : Vector} {after : List Vector} {u : Vector} → AtCut v w before x after u → All HasPoints (edges (part_one v (w ∷ before) x))
points_one {v} {w} {before} {x} {after} {u} k = ends_of_edges IsPoint (part_one v (w ∷ before) x) (all_one IsPoint v (w ∷ before) x (second after u) (points_at k))

pub points_two : {v w : Vector} {before : List Vector} {x : Vector} {after : List Vector} {u : Vector} → AtCut v w before x after u → All HasPoints (edges (part_one x (second after u) v))
points_two {v} {w} {before} {x} {after} {u} k = ends_of_edges IsPoint (part_one x (second after u) v) (all_two IsPoint v (w ∷ before) x (second after u) (points_at k))

-- from some number on, a step from v towards p stays farther from the line through w and u than x
aside : {v w : Vector} {before : List Vector} {x : Vector} {after : List Vector} {u : Vector} → AtCut v w before x after u → (p : Vector) → From (λ n. pos 0 <ℤ dot (far w u x) (step n v p))
aside {v} {w} {before} {x} {after} {u} k p = from_near (far w u x) v p (corner_of k).at_v

-- ---- the vertices of the first part are out of the second
pub first_outside : {v w : Vector} {before : List Vector} {x : Vector} {after : List Vector} {u : Vector} → AtCut v w before x after u → All (λ y. ¬ (InPolygon (part_one x (second after u) v) y)) (w ∷ before)
first_outside {v} {w} {before} {x} {after} {u} k =
    outside_list two (w ∷ before) (points_two k) (first_points k) (off_two k) (inner_segments (λ s. All (MeetRight s) (edges two)) v (w ∷ before) (x ∷ []) (first_meets_two k)) w v y0 (0, omega arith, refl) p.v_point hy (All-head (Differ v) w before (apart_of k).v_first) only (on_reversed v w y0 (on (step_between n v w (le_of_lt size)))) not_v even0
  where
    two : List Vector
    two = part_one x (second after u) v

    p : Points v w (before ++ x ∷ after) u
    p = points_of k.at

    n : ℤ
    n = (aside k w).least

    size : pos 0 <ℤ (aside k w).least
    size = (aside k w).positive

    y0 : Vector
    y0 = step (aside k w).least v w

    hy : IsPoint (step (aside k w).least v w)
    hy = step_point v w (aside k w).least p.v_point (le_of_lt p.w_point) size

    only : OnlyAt (edges (part_one x (second after u) v)) w v
    only c hc a m =
        let two = part_one x (second after u) v in
        let s = get_or (edges two) m.0 m.1 in
        let o = subst (λ s. On s c) (sym m.3) m.4 in
        let h = points_two k m.0 m.1 m.2 in
        let meet = All-head (λ s. All (MeetRight s) (edges two)) (segment v w) (chain w before x) (first_meets_two k) in
        elim (meet m.0 m.1 m.2 c hc (on_reversed w v c a) o).0 [
          | inl e ↦ e
          | inr e ↦ absurd (All-head (Off two) w before (off_two k) m.0 m.1 m.2 (on_same s.a s.b c w h.0 h.1 hc p.w_point e o))
        ]

    beta : turn u v (step (aside k w).least v w) ≡ turn u v w
    beta = along_zero (cross u v) v w (aside k w).least (cross_on_right u v)

    not_v : ¬ (Same (step (aside k w).least v w) v)
    not_v e = omega (arith, linear, beta, k.at.turns_left, zero_same (cross u v) v (step (aside k w).least v w) p.v_point (Same-swapped (step (aside k w).least v w) v e) (cross_on_right u v))

    at : InCorner v w u (far w u x) (step (aside k w).least v w)
    at = record {
      after = omega (arith, linear, along_zero (cross v w) v w (aside k w).least (cross_on_left v w), cross_on_right v w);
      before = omega (arith, linear, beta, k.at.turns_left);
      within = (aside k w).on (aside k w).least (omega (arith, linear));
    }

    back : pos 0 <ℤ dot (opposite (cross v x)) (step (aside k w).least v w)
    back = let l = cross v x in let y = step (aside k w).least v w in omega (arith, linear, dot_opposite l y, along_zero l v w (aside k w).least (cross_on_left v x), det_swapped_right v x w, after_x k)

    even0 : parity (edges (part_one x (second after u) v)) (step (aside k w).least v w) ≡ false
    even0 = beside (corner_of k) (opposite (cross v x)) (omega (arith, linear, dot_opposite (cross v x) v, cross_on_left v x)) (steep_back k) (edges (part_one x (second after u) v)) (points_two k) (closed (part_one x (second after u) v))
        (ends_of_edges (LeX v) (part_one x (second after u) v) (all_two (LeX v) v (w ∷ before) x (second after u) (right_all k))) (clear_back k) (step (aside k w).least v w) hy at back

-- ---- and those of the second out of the first
pub second_outside : {v w : Vector} {before : List Vector} {x : Vector} {after : List Vector} {u : Vector} → AtCut v w before x after u → All (λ y. ¬ (InPolygon (part_one v (w ∷ before) x) y)) (second after u)
second_outside {v} {w} {before} {x} {after} {u} k =
    outside_list one (second after u) (points_one k) (second_points k) (off_one k) (inner_segments (λ s. All (MeetRight s) (edges one)) x (second after u) (v ∷ []) (second_meets_one k)) u v y0 (Contains-push after u) p.v_point hy differ only (on_reversed v u y0 (on (step_between n v u (le_of_lt size)))) not_v even0
  where
    one : List Vector
    one = part_one v (w ∷ before) x

    p : Points v w (before ++ x ∷ after) u
    p = points_of k.at

    n : ℤ
    n = (aside k u).least

    size : pos 0 <ℤ (aside k u).least
    size = (aside k u).positive

    y0 : Vector
    y0 = step (aside k u).least v u

    hy : IsPoint (step (aside k u).least v u)
    hy = step_point v u (aside k u).least p.v_point (le_of_lt p.u_point) size

    differ : Differ v u
    differ = All-head (Differ v) u [] (all_right (Differ v) after (u ∷ []) (apart_of k).v_second)

    only : OnlyAt (edges (part_one v (w ∷ before) x)) u v
    only c hc a m =
        let one = part_one v (w ∷ before) x in
        let s = get_or (edges one) m.0 m.1 in
        let o = subst (λ s. On s c) (sym m.3) m.4 in
        let h = points_one k m.0 m.1 m.2 in
        let P = λ (s : Segment). All (MeetRight s) (edges one) in
        let meet = All-head P (segment u v) [] (all_right P (chain x after u) (segment u v ∷ []) (subst (All P) (chain_more x after u v) (second_meets_one k))) in
        elim (meet m.0 m.1 m.2 c hc a o).0 [
          | inl e ↦ absurd (All-head (Off one) u [] (all_right (Off one) after (u ∷ []) (off_one k)) m.0 m.1 m.2 (on_same s.a s.b c u h.0 h.1 hc p.u_point e o))
          | inr e ↦ e
        ]

    alpha : turn v w (step (aside k u).least v u) ≡ turn v w u
    alpha = along_zero (cross v w) v u (aside k u).least (cross_on_left v w)

    not_v : ¬ (Same (step (aside k u).least v u) v)
    not_v e = omega (arith, linear, alpha, k.at.turns_left, det_turned u v w, zero_same (cross v w) v (step (aside k u).least v u) p.v_point (Same-swapped (step (aside k u).least v u) v e) (cross_on_left v w))

    at : InCorner v w u (far w u x) (step (aside k u).least v u)
    at = record {
      after = omega (arith, linear, alpha, k.at.turns_left, det_turned u v w);
      before = omega (arith, linear, along_zero (cross u v) v u (aside k u).least (cross_on_right u v), cross_on_left u v);
      within = (aside k u).on (aside k u).least (omega (arith, linear));
    }

    ahead : pos 0 <ℤ turn v x (step (aside k u).least v u)
    ahead = omega (arith, linear, along_zero (cross v x) v u (aside k u).least (cross_on_left v x), left_u k)

    even0 : parity (edges (part_one v (w ∷ before) x)) (step (aside k u).least v u) ≡ false
    even0 = beside (corner_of k) (cross v x) (cross_on_left v x) (steep k) (edges (part_one v (w ∷ before) x)) (points_one k) (closed (part_one v (w ∷ before) x))
        (ends_of_edges (LeX v) (part_one v (w ∷ before) x) (all_one (LeX v) v (w ∷ before) x (second after u) (right_all k))) (clear_one k) (step (aside k u).least v u) hy at ahead
