-- A cut from the least vertex v to the vertex x of the ear that is farthest from the line through w and u: x is strictly inside the corner, and the path from w to u is out of it.
use Rattle.std.proofs.Common.{◌*ℤ◌, ◌<ℤ◌, List, ◌∷◌, ◌++◌, All, [], ◌≡◌, append_assoc, ap, ◌∙◌, subst, get_or, pos, ◌≤ℤ◌, arith, inl, inr, ◌+ℤ◌, ◌-ℤ◌}
use Rattle.std.proofs.lemmas.List.Elements.{All-head, All-tail}
use Rattle.plan_exact.specs.Expr.{◌⊕◌, ◌⊗◌, neg, ◌⊖◌}
use Rattle.plan_exact.specs.Formal.{A, B, C, D}
use Rattle.plan_exact.specs.Formal as F
use Rattle.plan_exact.specs.Vectors.{env, cross, dot}
use Rattle.plan_exact.proofs.Certificates.{eq_from, lt_from}
use Rattle.plan_exact.proofs.Laws.{linear, mul_comm}
use Rattle.plan_exact.proofs.Ring.{ring}
use Rattle.plan_exact.proofs.Signs.{zeros, mul_pos, mul_nonneg, le_of_lt, pos_of_mul, pos_of_nonneg}
use Rattle.plan_exact.proofs.Vectors.{cross_on_left, cross_on_right}
use Rattle.plan_spec.specs.Route.{segments_from}
use Rattle.plan_spec.specs.Segment.{segment}
use Rattle.plan_spec.specs.Vector.{Vector, turn, IsPoint, SameX, Before}
use Rattle.plan_plane.proofs.Lists.{all_left, all_right}
use Rattle.plan_plane.proofs.Pairs.{Across, pairs_across, pairs_right}
use Rattle.plan_plane.proofs.Polygon.Corner.{polygon, chain_more}
use Rattle.plan_plane.proofs.Polygon.Cut.{whole, chain}
use Rattle.plan_plane.proofs.Polygon.Edges.{segments_append, edges_cut}
use Rattle.plan_plane.proofs.Polygon.Sides.{on_first, on_last}
use Rattle.plan_plane.proofs.Segment.Between.{on}
use Rattle.plan_plane.proofs.Segment.Line.{right, formal_right, formal_above}
use Rattle.plan_plane.proofs.Segment.Same.{Same-swapped}
use Rattle.plan_poly.proofs.Loop.Corner.{AtCorner, points_of, Points, first_meets, last_meets}
use Rattle.plan_poly.proofs.Loop.Loop.{Loop, Differ}
use Rattle.plan_poly.proofs.Loop.Parts.{EndWhereOn, vertex_ends}
use Rattle.plan_tri.proofs.Corner.Clean.{Shape, clean}
use Rattle.plan_tri.proofs.Corner.Corner.{Corner, InCorner, Clean}
use Rattle.plan_tri.proofs.Ear.Ear.{InTriangle}

-- m is farther from the line through w and u than x
abbrev pub Farther : Vector → Vector → Vector → Vector → Type 0
Farther w u m x = (turn w u x *ℤ m.w) <ℤ (turn w u m *ℤ x.w)

pub record AtCut (v w : Vector) (before : List Vector) (x : Vector) (after : List Vector) (u : Vector) : Type 0 where
  pub at : AtCorner v w (before ++ x ∷ after) u
  pub inside : InTriangle v w u x
  pub farthest : All (λ m. InTriangle v w u m → ¬ (Farther w u m x)) (before ++ x ∷ after)

-- ---- the list by the cut
abbrev pub second : List Vector → Vector → List Vector
second after u = after ++ u ∷ []

pub list_is : (v w : Vector) (before : List Vector) (x : Vector) (after : List Vector) (u : Vector) → polygon v w (before ++ x ∷ after) u ≡ whole v (w ∷ before) x (second after u)
list_is v w before x after u = ap (λ vs. v ∷ (w ∷ vs)) (append_assoc before (x ∷ after) (u ∷ []))

pub path_is : (w : Vector) (before : List Vector) (x : Vector) (after : List Vector) (u : Vector) → chain w (before ++ x ∷ after) u ≡ chain w before x ++ chain x after u
path_is w before x after u = ap (segments_from w) (append_assoc before (x ∷ after) (u ∷ [])) ∙ segments_append w before x (second after u)

pub loop_of : {v w : Vector} {before : List Vector} {x : Vector} {after : List Vector} {u : Vector} → AtCut v w before x after u → Loop (whole v (w ∷ before) x (second after u))
loop_of {v} {w} {before} {x} {after} {u} k = subst Loop (list_is v w before x after u) k.at.loop

-- ---- the vertices differ
pub record Apart (v w : Vector) (before : List Vector) (x : Vector) (after : List Vector) (u : Vector) : Type 0 where
  pub v_first : All (Differ v) (w ∷ before)
  pub v_x : Differ v x
  pub v_second : All (Differ v) (second after u)
  pub first_x : All (λ y. Differ y x) (w ∷ before)
  pub first_second : Across Differ (w ∷ before) (second after u)
  pub x_second : All (Differ x) (second after u)

pub apart_of : {v w : Vector} {before : List Vector} {x : Vector} {after : List Vector} {u : Vector} → AtCut v w before x after u → Apart v w before x after u
apart_of {v} {w} {before} {x} {after} {u} k =
    let d = (loop_of k).distinct in
    let rest = second after u in
    let far = all_right (Differ v) (w ∷ before) (x ∷ rest) d.0 in
    let a = pairs_across Differ (w ∷ before) (x ∷ rest) d.1 in
    record {
      v_first = all_left (Differ v) (w ∷ before) (x ∷ rest) d.0;
      v_x = All-head (Differ v) x rest far;
      v_second = All-tail (Differ v) x rest far;
      first_x = λ i e within. All-head (Differ (get_or (w ∷ before) i e)) x rest (a i e within);
      first_second = λ i e within. All-tail (Differ (get_or (w ∷ before) i e)) x rest (a i e within);
      x_second = (pairs_right Differ (w ∷ before) (x ∷ rest) d.1).0;
    }

-- ---- x is a point, and strictly inside the two sides at v
pub x_point : {v w : Vector} {before : List Vector} {x : Vector} {after : List Vector} {u : Vector} → AtCut v w before x after u → IsPoint x
x_point {v} {w} {before} {x} {after} {u} k = All-head IsPoint x after (all_right IsPoint before (x ∷ after) (points_of k.at).mid_points)

pub ends_x : {v w : Vector} {before : List Vector} {x : Vector} {after : List Vector} {u : Vector} → AtCut v w before x after u → All (EndWhereOn x) (chain v (w ∷ before) x ++ chain x (second after u) v)
ends_x {v} {w} {before} {x} {after} {u} k = subst (All (EndWhereOn x)) (edges_cut v (w ∷ before) x (second after u)) (vertex_ends v (w ∷ before) x (second after u) (loop_of k))

pub after_x : {v w : Vector} {before : List Vector} {x : Vector} {after : List Vector} {u : Vector} → AtCut v w before x after u → pos 0 <ℤ turn v w x
after_x {v} {w} {before} {x} {after} {u} k = pos_of_nonneg k.inside.after off
  where
    off : ¬ (turn v w x ≡ pos 0)
    off e =
        let d = apart_of k in
        let h = All-head (EndWhereOn x) (segment v w) (chain w before x) (all_left (EndWhereOn x) (chain v (w ∷ before) x) (chain x (second after u) v) (ends_x k)) in
        elim (h (on (on_first v w u x k.at.turns_left e k.inside.ahead k.inside.before))) [
          | inl same ↦ d.v_x (Same-swapped x v same)
          | inr same ↦ All-head (λ y. Differ y x) w before d.first_x (Same-swapped x w same)
        ]

pub before_x : {v w : Vector} {before : List Vector} {x : Vector} {after : List Vector} {u : Vector} → AtCut v w before x after u → pos 0 <ℤ turn u v x
before_x {v} {w} {before} {x} {after} {u} k = pos_of_nonneg k.inside.before off
  where
    off : ¬ (turn u v x ≡ pos 0)
    off e =
        let d = apart_of k in
        let r = subst (All (EndWhereOn x)) (chain_more x after u v) (all_right (EndWhereOn x) (chain v (w ∷ before) x) (chain x (second after u) v) (ends_x k)) in
        let h = All-head (EndWhereOn x) (segment u v) [] (all_right (EndWhereOn x) (chain x after u) (segment u v ∷ []) r) in
        elim (h (on (on_last v w u x k.at.turns_left e k.inside.ahead k.inside.after))) [
          | inl same ↦ All-head (Differ x) u [] (all_right (Differ x) after (u ∷ []) d.x_second) same
          | inr same ↦ d.v_x (Same-swapped x v same)
        ]

-- ---- right of v
flat : (v w u : Vector) → IsPoint v → SameX v w → SameX v u → turn u v w ≡ pos 0
flat v w u hv ew eu =
    let fw : right v w ≡ pos 0 = omega (arith, linear) in
    let fu : right v u ≡ pos 0 = omega (arith, linear) in
    eq_from (env [] (v ∷ w ∷ u ∷ [])) A.w (formal_above A C ⊗ formal_right A B ⊕ neg (formal_above A B) ⊗ formal_right A C) (F.det C A B) F.zero tt hv (search zeros)

pub right_x : {v w : Vector} {before : List Vector} {x : Vector} {after : List Vector} {u : Vector} → AtCut v w before x after u → pos 0 <ℤ right v x
right_x {v} {w} {before} {x} {after} {u} k = by bw bu
  where
    bw : Before v w
    bw = All-head (Before v) w ((before ++ x ∷ after) ++ u ∷ []) k.at.least

    bu : Before v u
    bu = All-head (Before v) u [] (all_right (Before v) (before ++ x ∷ after) (u ∷ []) (All-tail (Before v) w ((before ++ x ∷ after) ++ u ∷ []) k.at.least))

    go : pos 0 ≤ℤ right v w → pos 0 ≤ℤ right v u → pos 0 <ℤ (turn u v x *ℤ right v w +ℤ turn v w x *ℤ right v u) → pos 0 <ℤ right v x
    go a b sum = lt_from (env [] (v ∷ w ∷ u ∷ x ∷ [])) (F.det C A B) (F.det C A D ⊗ formal_right A B ⊕ F.det A B D ⊗ formal_right A C) F.zero (formal_right A D) tt k.at.turns_left sum

    by : Before v w → Before v u → pos 0 <ℤ right v x
    by (inl a) (inl b) =
        let p : pos 0 <ℤ right v w = omega (arith, linear) in
        let q : pos 0 <ℤ right v u = omega (arith, linear) in
        go (le_of_lt p) (le_of_lt q) (omega (arith, linear, mul_pos (before_x k) p, mul_pos (after_x k) q))
    by (inl a) (inr b) =
        let p : pos 0 <ℤ right v w = omega (arith, linear) in
        let e = b.0 in
        let q : pos 0 ≤ℤ right v u = omega (arith, linear) in
        go (le_of_lt p) q (omega (arith, linear, mul_pos (before_x k) p, mul_nonneg (le_of_lt (after_x k)) q))
    by (inr a) (inl b) =
        let e = a.0 in
        let p : pos 0 ≤ℤ right v w = omega (arith, linear) in
        let q : pos 0 <ℤ right v u = omega (arith, linear) in
        go p (le_of_lt q) (omega (arith, linear, mul_nonneg (le_of_lt (before_x k)) p, mul_pos (after_x k) q))
    by (inr a) (inr b) = absurd (omega (arith, linear, flat v w u (points_of k.at).v_point a.0 b.0, k.at.turns_left))

-- ---- the covector that is positive where a point is farther than x
abbrev pub far : Vector → Vector → Vector → Vector
far w u x = record { x = x.w *ℤ (cross w u).x; y = x.w *ℤ (cross w u).y; w = x.w *ℤ (cross w u).w -ℤ turn w u x }

abbrev far_of : F.Vec → F.Vec → F.Vec → F.Vec
far_of w u x = record { x = x.w ⊗ (F.cross w u).x; y = x.w ⊗ (F.cross w u).y; w = x.w ⊗ (F.cross w u).w ⊖ F.det w u x }

pub far_value : (w u x z : Vector) → dot (far w u x) z ≡ x.w *ℤ turn w u z -ℤ turn w u x *ℤ z.w
far_value w u x z = ring (env [] (w ∷ u ∷ x ∷ z ∷ [])) (F.dot (far_of A B C) D) (C.w ⊗ F.det A B D ⊖ F.det A B C ⊗ D.w) tt

far_at_v : (v w u x : Vector) → dot (far w u x) v ≡ turn u v x *ℤ w.w +ℤ turn v w x *ℤ u.w
far_at_v v w u x = ring (env [] (v ∷ w ∷ u ∷ x ∷ [])) (F.dot (far_of B C D) A) (F.det C A D ⊗ B.w ⊕ F.det A B D ⊗ C.w) tt

pub corner_of : {v w : Vector} {before : List Vector} {x : Vector} {after : List Vector} {u : Vector} → AtCut v w before x after u → Corner v w u (far w u x)
corner_of {v} {w} {before} {x} {after} {u} k =
    let p = points_of k.at in
    record {
      point_v = p.v_point;
      point_w = p.w_point;
      point_u = p.u_point;
      turns_left = k.at.turns_left;
      at_v = omega (arith, linear, far_at_v v w u x, mul_pos (before_x k) p.w_point, mul_pos (after_x k) p.u_point);
    }

pub shape_of : {v w : Vector} {before : List Vector} {x : Vector} {after : List Vector} {u : Vector} → AtCut v w before x after u → Shape v w u (far w u x) (before ++ x ∷ after)
shape_of {v} {w} {before} {x} {after} {u} k = record {
  corner = corner_of k;
  at_w = omega (arith, linear, far_value w u x w, zero_left, mul_nonneg k.inside.ahead (le_of_lt p.w_point));
  at_u = omega (arith, linear, far_value w u x u, zero_right, mul_nonneg k.inside.ahead (le_of_lt p.u_point));
  ahead = ahead;
  points = p.mid_points;
  none = λ i d within. none (get_or (before ++ x ∷ after) i d) (p.mid_points i d within) (k.farthest i d within);
  first_meets = first_meets k.at;
  last_meets = last_meets k.at;
}
  where
    p : Points v w (before ++ x ∷ after) u
    p = points_of k.at

    zero_left : x.w *ℤ turn w u w ≡ pos 0
    zero_left = let e = cross_on_left w u in search zeros

    zero_right : x.w *ℤ turn w u u ≡ pos 0
    zero_right = let e = cross_on_right w u in search zeros

    ahead : (z : Vector) → IsPoint z → pos 0 <ℤ dot (far w u x) z → pos 0 <ℤ turn w u z
    ahead z hz h = pos_of_mul (x_point k) (omega (arith, linear, far_value w u x z, mul_nonneg k.inside.ahead (le_of_lt hz)))

    none : (m : Vector) → IsPoint m → (InTriangle v w u m → ¬ (Farther w u m x)) → ¬ (InCorner v w u (far w u x) m)
    none m hm not_farther i =
        not_farther (record { after = i.after; ahead = le_of_lt (ahead m hm i.within); before = i.before })
        (omega (arith, linear, far_value w u x m, i.within, mul_comm x.w (turn w u m)))

pub path_clean : {v w : Vector} {before : List Vector} {x : Vector} {after : List Vector} {u : Vector} → AtCut v w before x after u → All (Clean v w u (far w u x)) (chain w (before ++ x ∷ after) u)
path_clean k = clean (shape_of k)
