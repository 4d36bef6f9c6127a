-- The diagonal of a cut meets the edges at its two ends alone, so the two parts are loops.
use Rattle.std.proofs.Common.{◌≡◌, pos, arith, ◌⊎◌, inl, inr, List, sym, ◌∷◌, All, [], ◌++◌, get_or, subst}
use Rattle.std.proofs.lemmas.List.Elements.{All-nil, All-cons, All-tail, All-append}
use Rattle.plan_exact.specs.Vectors.{dot, cross}
use Rattle.plan_exact.proofs.Laws.{linear, mul_comm}
use Rattle.plan_exact.proofs.Signs.{le_of_eq}
use Rattle.plan_exact.proofs.Vectors.{cross_on_left, cross_on_right}
use Rattle.plan_spec.specs.Polygon.{edges}
use Rattle.plan_spec.specs.Segment.{segment, Segment, HasPoints}
use Rattle.plan_spec.specs.Vector.{Vector, turn, Same, IsPoint}
use Rattle.plan_plane.proofs.Lists.{all_left, all_right}
use Rattle.plan_plane.proofs.Polygon.Corner.{polygon, chain_more, all_corner}
use Rattle.plan_plane.proofs.Polygon.Cut.{whole, chain, part_one}
use Rattle.plan_plane.proofs.Polygon.Edges.{ends_of_segments, edges_cut}
use Rattle.plan_plane.proofs.Segment.AtEnds.{second_weight, pos_by_second, first_weight, pos_by_first}
use Rattle.plan_plane.proofs.Segment.Between.{between, nonneg_at}
use Rattle.plan_plane.proofs.Segment.Same.{on_same}
use Rattle.plan_plane.proofs.Segment.Whether.{same_or_not}
use Rattle.plan_poly.proofs.Loop.Corner.{points_of}
use Rattle.plan_poly.proofs.Loop.Loop.{IsEnd, MeetRight, Loop, meet_reversed}
use Rattle.plan_poly.proofs.Loop.Parts.{EndWhereOn, loop_part, rotated}
use Rattle.plan_tri.proofs.Corner.Corner.{Clean}
use Rattle.plan_tri.proofs.Cut.Cutting.{far, far_value, AtCut, x_point, after_x, before_x, corner_of, second, loop_of, list_is, path_is, ends_x, path_clean}
use Rattle.plan_tri.proofs.Ear.Diagonal.{end_moved}

pub zero_at_x : (w u x : Vector) → dot (far w u x) x ≡ pos 0
zero_at_x w u x = omega (arith, linear, far_value w u x x, mul_comm x.w (turn w u x))

-- ---- the diagonal meets the edges at vertices alone
meets_first : {v w : Vector} {before : List Vector} {x : Vector} {after : List Vector} {u : Vector} → AtCut v w before x after u → MeetRight (segment v x) (segment v w)
meets_first {v} {w} {before} {x} {after} {u} k z hz a b = by (same_or_not z v)
  where
    by : Same z v ⊎ ¬ (Same z v) → IsEnd (segment v x) z × IsEnd (segment v w) z
    by (inl s) = (inl s, inl s)
    by (inr n) =
        let m = between v x z (points_of k.at).v_point (x_point k) hz a in
        absurd (omega (arith, linear, b.in_line, pos_by_second m (cross v w) (second_weight m n) (le_of_eq (sym (cross_on_left v w))) (after_x k)))

meets_last : {v w : Vector} {before : List Vector} {x : Vector} {after : List Vector} {u : Vector} → AtCut v w before x after u → MeetRight (segment v x) (segment u v)
meets_last {v} {w} {before} {x} {after} {u} k z hz a b = by (same_or_not z v)
  where
    by : Same z v ⊎ ¬ (Same z v) → IsEnd (segment v x) z × IsEnd (segment u v) z
    by (inl s) = (inl s, inr s)
    by (inr n) =
        let m = between v x z (points_of k.at).v_point (x_point k) hz a in
        absurd (omega (arith, linear, b.in_line, pos_by_second m (cross u v) (second_weight m n) (le_of_eq (sym (cross_on_right u v))) (before_x k)))

meets_path : {v w : Vector} {before : List Vector} {x : Vector} {after : List Vector} {u : Vector} → AtCut v w before x after u → (s : Segment) → HasPoints s → EndWhereOn x s → Clean v w u (far w u x) s → MeetRight (segment v x) s
meets_path {v} {w} {before} {x} {after} {u} k s hs ends clean z hz a b = by (same_or_not z x)
  where
    by : Same z x ⊎ ¬ (Same z x) → IsEnd (segment v x) z × IsEnd s z
    by (inl e) = (inr e, end_moved s z x (x_point k) e (ends (on_same s.a s.b z x hs.0 hs.1 hz (x_point k) e b)))
    by (inr n) =
        let m = between v x z (points_of k.at).v_point (x_point k) hz a in
        absurd (clean z hz b (record {
          after = nonneg_at m (cross v w) (le_of_eq (sym (cross_on_left v w))) k.inside.after;
          before = nonneg_at m (cross u v) (le_of_eq (sym (cross_on_right u v))) k.inside.before;
          within = pos_by_first m (far w u x) (first_weight m n) (corner_of k).at_v (le_of_eq (sym (zero_at_x w u x)));
        }))

pub points_at : {v w : Vector} {before : List Vector} {x : Vector} {after : List Vector} {u : Vector} → AtCut v w before x after u → All IsPoint (whole v (w ∷ before) x (second after u))
points_at k = (loop_of k).points

pub diagonal_meets : {v w : Vector} {before : List Vector} {x : Vector} {after : List Vector} {u : Vector} → AtCut v w before x after u → All (MeetRight (segment v x)) (chain v (w ∷ before) x ++ chain x (second after u) v)
diagonal_meets {v} {w} {before} {x} {after} {u} k =
    subst (All (MeetRight (segment v x))) (edges_cut v (w ∷ before) x (second after u)) (subst (λ vs. All (MeetRight (segment v x)) (edges vs)) (list_is v w before x after u) all)
  where
    path_points : All HasPoints (chain w (before ++ x ∷ after) u)
    path_points = let p = points_of k.at in ends_of_segments IsPoint w ((before ++ x ∷ after) ++ u ∷ []) p.w_point (All-append IsPoint (before ++ x ∷ after) (u ∷ []) p.mid_points (All-cons IsPoint u [] p.u_point (All-nil IsPoint)))

    path_ends : All (EndWhereOn x) (chain w (before ++ x ∷ after) u)
    path_ends =
        let h = ends_x k in
        let a = All-tail (EndWhereOn x) (segment v w) (chain w before x) (all_left (EndWhereOn x) (chain v (w ∷ before) x) (chain x (second after u) v) h) in
        let b = subst (All (EndWhereOn x)) (chain_more x after u v) (all_right (EndWhereOn x) (chain v (w ∷ before) x) (chain x (second after u) v) h) in
        subst (All (EndWhereOn x)) (sym (path_is w before x after u)) (All-append (EndWhereOn x) (chain w before x) (chain x after u) a (all_left (EndWhereOn x) (chain x after u) (segment u v ∷ []) b))

    all : All (MeetRight (segment v x)) (edges (polygon v w (before ++ x ∷ after) u))
    all = all_corner (MeetRight (segment v x)) v w (before ++ x ∷ after) u (meets_first k)
        (λ i d within. meets_path k (get_or (chain w (before ++ x ∷ after) u) i d) (path_points i d within) (path_ends i d within) (path_clean k i d within))
        (meets_last k)

-- ---- the parts are loops
pub loop_one : {v w : Vector} {before : List Vector} {x : Vector} {after : List Vector} {u : Vector} → AtCut v w before x after u → Loop (part_one v (w ∷ before) x)
loop_one {v} {w} {before} {x} {after} {u} k = loop_part v (w ∷ before) x (second after u) (loop_of k) (all_left (MeetRight (segment v x)) (chain v (w ∷ before) x) (chain x (second after u) v) (diagonal_meets k))

pub loop_two : {v w : Vector} {before : List Vector} {x : Vector} {after : List Vector} {u : Vector} → AtCut v w before x after u → Loop (part_one x (second after u) v)
loop_two {v} {w} {before} {x} {after} {u} k =
    let m = all_right (MeetRight (segment v x)) (chain v (w ∷ before) x) (chain x (second after u) v) (diagonal_meets k) in
    loop_part x (second after u) v (w ∷ before) (rotated v (w ∷ before) x (second after u) (loop_of k)) (λ i d within. meet_reversed v x (m i d within))
