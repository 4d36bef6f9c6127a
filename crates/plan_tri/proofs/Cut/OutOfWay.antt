-- How the edges of the two parts of a cut meet, and that they are out of the corner or behind a line through v.
use Rattle.std.proofs.Common.{List, ◌∷◌, subst, All, [], get_or, sym, inl, inr, ◌++◌, ℕ, ◌<◌, length, arith, pos, ◌<ℤ◌, ◌≡◌}
use Rattle.std.proofs.lemmas.List.Elements.{All-nil, All-cons, All-append, All-tail, All-weaker}
use Rattle.plan_exact.specs.Vectors.{cross, opposite}
use Rattle.plan_exact.proofs.Laws.{linear, mul_comm}
use Rattle.plan_exact.proofs.Vectors.{cross_on_left, cross_on_right, det_swapped_right, det_turned, dot_opposite}
use Rattle.plan_spec.specs.Polygon.{edges}
use Rattle.plan_spec.specs.Segment.{segment, Segment, On}
use Rattle.plan_spec.specs.Vector.{Vector, turn, LeX}
use Rattle.plan_plane.proofs.Lists.{all_left, all_right}
use Rattle.plan_plane.proofs.Pairs.{Pairs, Across, pairs_across, across_swapped}
use Rattle.plan_plane.proofs.Polygon.Corner.{chain_more}
use Rattle.plan_plane.proofs.Polygon.Cut.{chain, part_one, edges_part, whole}
use Rattle.plan_plane.proofs.Polygon.Edges.{edges_cut, Ends, vertices_on, ends_of_segments}
use Rattle.plan_plane.proofs.Segment.Reversed.{on_reversed}
use Rattle.plan_poly.proofs.Loop.Corner.{right_of_v}
use Rattle.plan_poly.proofs.Loop.Loop.{MeetRight, meet_swapped, meet_reversed, Differ, IsEnd, differ_swapped}
use Rattle.plan_poly.proofs.Loop.Parts.{EndWhereOn, vertices_end}
use Rattle.plan_tri.proofs.Corner.Corner.{Clean, OutOfWay}
use Rattle.plan_tri.proofs.Cut.Cutting.{AtCut, second, loop_of, apart_of, far, after_x, path_is, path_clean, before_x, list_is, right_x}
use Rattle.plan_tri.proofs.Cut.Diagonal.{diagonal}
use Rattle.plan_tri.proofs.Cut.Halves.{OutOfWays}
use Rattle.plan_tri.proofs.Cut.Loops.{diagonal_meets, points_at}
use Rattle.plan_tri.proofs.Cut.Outside.{Off}
use Rattle.plan_tri.proofs.Ear.Ear.{nonpos}

-- ---- each chain against the edges of the other part
chains_meet : {v w : Vector} {before : List Vector} {x : Vector} {after : List Vector} {u : Vector} → AtCut v w before x after u → Across MeetRight (chain v (w ∷ before) x) (chain x (second after u) v)
chains_meet {v} {w} {before} {x} {after} {u} k = pairs_across MeetRight (chain v (w ∷ before) x) (chain x (second after u) v) (subst (Pairs MeetRight) (edges_cut v (w ∷ before) x (second after u)) (loop_of k).apart)

pub first_meets_two : {v w : Vector} {before : List Vector} {x : Vector} {after : List Vector} {u : Vector} → AtCut v w before x after u → All (λ s. All (MeetRight s) (edges (part_one x (second after u) v))) (chain v (w ∷ before) x)
first_meets_two {v} {w} {before} {x} {after} {u} k i d within =
    let s = get_or (chain v (w ∷ before) x) i d in
    let m = all_left (MeetRight (segment v x)) (chain v (w ∷ before) x) (chain x (second after u) v) (diagonal_meets k) in
    subst (All (MeetRight s)) (sym (edges_part x (second after u) v)) (All-append (MeetRight s) (chain x (second after u) v) (segment v x ∷ []) (chains_meet k i d within) (All-cons (MeetRight s) (segment v x) [] (meet_swapped (segment v x) s (m i d within)) (All-nil (MeetRight s))))

pub second_meets_one : {v w : Vector} {before : List Vector} {x : Vector} {after : List Vector} {u : Vector} → AtCut v w before x after u → All (λ s. All (MeetRight s) (edges (part_one v (w ∷ before) x))) (chain x (second after u) v)
second_meets_one {v} {w} {before} {x} {after} {u} k i d within =
    let s = get_or (chain x (second after u) v) i d in
    let m = all_right (MeetRight (segment v x)) (chain v (w ∷ before) x) (chain x (second after u) v) (diagonal_meets k) in
    let a = across_swapped MeetRight meet_swapped (chain v (w ∷ before) x) (chain x (second after u) v) (chains_meet k) in
    subst (All (MeetRight s)) (sym (edges_part v (w ∷ before) x)) (All-append (MeetRight s) (chain v (w ∷ before) x) (segment x v ∷ []) (a i d within) (All-cons (MeetRight s) (segment x v) [] (meet_swapped (segment x v) s (meet_reversed v x (m i d within))) (All-nil (MeetRight s))))

-- ---- the vertices of a part are off the edges of the other
-- y is none of the ends of the segments, and an end where it is on one
none_on : (y : Vector) (ss : List Segment) → All (EndWhereOn y) ss → All (Ends (Differ y)) ss → All (λ s. ¬ (On s y)) ss
none_on y ss h differ i d within o = elim (h i d within o) [
  | inl e ↦ (differ i d within).0 e
  | inr e ↦ (differ i d within).1 e
]

all_ends : {v w : Vector} {before : List Vector} {x : Vector} {after : List Vector} {u : Vector} → AtCut v w before x after u → All (λ y. All (EndWhereOn y) (chain v (w ∷ before) x ++ chain x (second after u) v)) (whole v (w ∷ before) x (second after u))
all_ends {v} {w} {before} {x} {after} {u} k =
    subst (λ es. All (λ y. All (EndWhereOn y) es) (whole v (w ∷ before) x (second after u))) (edges_cut v (w ∷ before) x (second after u)) (vertices_end (whole v (w ∷ before) x (second after u)) (loop_of k))

-- a vertex that is on the diagonal is an end of it
abbrev EndsDiagonal : Vector → Vector → Vector → Type 0
EndsDiagonal v x y = On (segment v x) y → IsEnd (segment v x) y

on_diagonal_ends : {v w : Vector} {before : List Vector} {x : Vector} {after : List Vector} {u : Vector} → AtCut v w before x after u → All (EndsDiagonal v x) (whole v (w ∷ before) x (second after u))
on_diagonal_ends {v} {w} {before} {x} {after} {u} k i d within o =
    let all = whole v (w ∷ before) x (second after u) in
    let m = vertices_on all (points_at k) i d within in
    let meets = subst (All (MeetRight (segment v x))) (sym (edges_cut v (w ∷ before) x (second after u))) (diagonal_meets k) in
    (meets m.0 m.1 m.2 (get_or all i d) (points_at k i d within) o (subst (λ s. On s (get_or all i d)) (sym m.3) m.4)).0

pub off_two : {v w : Vector} {before : List Vector} {x : Vector} {after : List Vector} {u : Vector} → AtCut v w before x after u → All (Off (part_one x (second after u) v)) (w ∷ before)
off_two {v} {w} {before} {x} {after} {u} k i e within =
    let y = get_or (w ∷ before) i e in
    let d = apart_of k in
    let rest = x ∷ second after u in
    let h = all_left (λ y. All (EndWhereOn y) (chain v (w ∷ before) x ++ chain x (second after u) v)) (w ∷ before) rest (All-tail (λ y. All (EndWhereOn y) (chain v (w ∷ before) x ++ chain x (second after u) v)) v ((w ∷ before) ++ rest) (all_ends k)) i e within in
    let on_b = all_right (EndWhereOn y) (chain v (w ∷ before) x) (chain x (second after u) v) h in
    let at_v = differ_swapped v y (d.v_first i e within) in
    let at_x = d.first_x i e within in
    let ends = ends_of_segments (Differ y) x (second after u ++ v ∷ []) at_x (All-append (Differ y) (second after u) (v ∷ []) (d.first_second i e within) (All-cons (Differ y) v [] at_v (All-nil (Differ y)))) in
    let o = all_left (EndsDiagonal v x) (w ∷ before) rest (All-tail (EndsDiagonal v x) v ((w ∷ before) ++ rest) (on_diagonal_ends k)) i e within in
    let off_d : ¬ (On (segment v x) y) = λ a. elim (o a) [
      | inl s ↦ at_v s
      | inr s ↦ at_x s
    ] in
    subst (All (λ s. ¬ (On s y))) (sym (edges_part x (second after u) v)) (All-append (λ s. ¬ (On s y)) (chain x (second after u) v) (segment v x ∷ []) (none_on y (chain x (second after u) v) on_b ends) (All-cons (λ s. ¬ (On s y)) (segment v x) [] off_d (All-nil (λ s. ¬ (On s y)))))

pub off_one : {v w : Vector} {before : List Vector} {x : Vector} {after : List Vector} {u : Vector} → AtCut v w before x after u → All (Off (part_one v (w ∷ before) x)) (second after u)
off_one {v} {w} {before} {x} {after} {u} k i e within =
    let y = get_or (second after u) i e in
    let d = apart_of k in
    let ys = second after u in
    let P = λ (y : Vector). All (EndWhereOn y) (chain v (w ∷ before) x ++ chain x (second after u) v) in
    let h = All-tail P x ys (all_right P (w ∷ before) (x ∷ ys) (All-tail P v ((w ∷ before) ++ x ∷ ys) (all_ends k))) i e within in
    let on_a = all_left (EndWhereOn y) (chain v (w ∷ before) x) (chain x (second after u) v) h in
    let at_v = differ_swapped v y (d.v_second i e within) in
    let at_x = differ_swapped x y (d.x_second i e within) in
    let at_first = λ (j : ℕ) (f : Vector) (less : j < length (w ∷ before)). differ_swapped (get_or (w ∷ before) j f) y (d.first_second j f less i e within) in
    let ends = ends_of_segments (Differ y) v ((w ∷ before) ++ x ∷ []) at_v (All-append (Differ y) (w ∷ before) (x ∷ []) at_first (All-cons (Differ y) x [] at_x (All-nil (Differ y)))) in
    let o = All-tail (EndsDiagonal v x) x ys (all_right (EndsDiagonal v x) (w ∷ before) (x ∷ ys) (All-tail (EndsDiagonal v x) v ((w ∷ before) ++ x ∷ ys) (on_diagonal_ends k))) i e within in
    let off_d : ¬ (On (segment x v) y) = λ a. elim (o (on_reversed x v y a)) [
      | inl s ↦ at_v s
      | inr s ↦ at_x s
    ] in
    subst (All (λ s. ¬ (On s y))) (sym (edges_part v (w ∷ before) x)) (All-append (λ s. ¬ (On s y)) (chain v (w ∷ before) x) (segment x v ∷ []) (none_on y (chain v (w ∷ before) x) on_a ends) (All-cons (λ s. ¬ (On s y)) (segment x v) [] off_d (All-nil (λ s. ¬ (On s y)))))

-- ---- what is out of the way of each part
pub clear_one : {v w : Vector} {before : List Vector} {x : Vector} {after : List Vector} {u : Vector} → AtCut v w before x after u → All (OutOfWay v w u (far w u x) (cross v x)) (edges (part_one v (w ∷ before) x))
clear_one {v} {w} {before} {x} {after} {u} k =
    let P = OutOfWay v w u (far w u x) (cross v x) in
    let p = subst (All (Clean v w u (far w u x))) (path_is w before x after u) (path_clean k) in
    let c = all_left (Clean v w u (far w u x)) (chain w before x) (chain x after u) p in
    let first : P (segment v w) = inr (record { first = nonpos (cross_on_left v x); second = omega (arith, linear, det_swapped_right v x w, after_x k) }) in
    let last : P (segment x v) = inr (record { first = nonpos (cross_on_right v x); second = nonpos (cross_on_left v x) }) in
    subst (All P) (sym (edges_part v (w ∷ before) x)) (All-append P (chain v (w ∷ before) x) (segment x v ∷ []) (All-cons P (segment v w) (chain w before x) first (λ i d within. inl (c i d within))) (All-cons P (segment x v) [] last (All-nil P)))

two_edges : {v w : Vector} {before : List Vector} {x : Vector} {after : List Vector} {u : Vector} → AtCut v w before x after u → (P : Segment → Type 0) → ((s : Segment) → Clean v w u (far w u x) s → P s) → P (segment u v) → P (segment v x) → All P (edges (part_one x (second after u) v))
two_edges {v} {w} {before} {x} {after} {u} k P f last diagonal =
    let p = subst (All (Clean v w u (far w u x))) (path_is w before x after u) (path_clean k) in
    let c = all_right (Clean v w u (far w u x)) (chain w before x) (chain x after u) p in
    let b = subst (All P) (sym (chain_more x after u v)) (All-append P (chain x after u) (segment u v ∷ []) (All-weaker (Clean v w u (far w u x)) P f (chain x after u) c) (All-cons P (segment u v) [] last (All-nil P))) in
    subst (All P) (sym (edges_part x (second after u) v)) (All-append P (chain x (second after u) v) (segment v x ∷ []) b (All-cons P (segment v x) [] diagonal (All-nil P)))

pub left_u : {v w : Vector} {before : List Vector} {x : Vector} {after : List Vector} {u : Vector} → AtCut v w before x after u → pos 0 <ℤ turn v x u
left_u {v} {w} {before} {x} {after} {u} k = omega (arith, linear, before_x k, det_turned u v x)

pub clear_back : {v w : Vector} {before : List Vector} {x : Vector} {after : List Vector} {u : Vector} → AtCut v w before x after u → All (OutOfWay v w u (far w u x) (opposite (cross v x))) (edges (part_one x (second after u) v))
clear_back {v} {w} {before} {x} {after} {u} k =
    let l = cross v x in
    two_edges k (OutOfWay v w u (far w u x) (opposite l)) (λ s c. inl c)
    (inr (record { first = omega (arith, linear, dot_opposite l u, left_u k); second = omega (arith, linear, dot_opposite l v, cross_on_left v x) }))
    (inr (record { first = omega (arith, linear, dot_opposite l v, cross_on_left v x); second = omega (arith, linear, dot_opposite l x, cross_on_right v x) }))

pub clear_two : {v w : Vector} {before : List Vector} {x : Vector} {after : List Vector} {u : Vector} → AtCut v w before x after u → All (OutOfWays v w u (far w u x) (cross v x) (cross u v)) (edges (part_one x (second after u) v))
clear_two {v} {w} {before} {x} {after} {u} k =
    two_edges k (OutOfWays v w u (far w u x) (cross v x) (cross u v)) (λ s c. inl c)
    (inr (inr (record { first = nonpos (cross_on_left u v); second = nonpos (cross_on_right u v) })))
    (inr (inl (record { first = nonpos (cross_on_left v x); second = nonpos (cross_on_right v x) })))

-- ---- sizes and orders of the parts
pub right_all : {v w : Vector} {before : List Vector} {x : Vector} {after : List Vector} {u : Vector} → AtCut v w before x after u → All (LeX v) (whole v (w ∷ before) x (second after u))
right_all {v} {w} {before} {x} {after} {u} k = subst (All (LeX v)) (list_is v w before x after u) (right_of_v k.at)

pub steep : {v w : Vector} {before : List Vector} {x : Vector} {after : List Vector} {u : Vector} → AtCut v w before x after u → ¬ ((cross v x).y ≡ pos 0)
steep {v} {w} {before} {x} {after} {u} k e = omega (arith, linear, right_x k, e, mul_comm v.w x.x)

pub steep_back : {v w : Vector} {before : List Vector} {x : Vector} {after : List Vector} {u : Vector} → AtCut v w before x after u → ¬ ((opposite (cross v x)).y ≡ pos 0)
steep_back {v} {w} {before} {x} {after} {u} k e = omega (arith, linear, right_x k, e, mul_comm v.w x.x)
