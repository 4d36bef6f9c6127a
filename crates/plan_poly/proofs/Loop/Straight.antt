-- At its least vertex a loop is not straight: its neighbours there would be on one side, and so on one another's edge.
use Rattle.std.proofs.Common.{pos, neg_ℤ, ◌≡◌, [], ◌∷◌, inl, inr, arith, List, ◌++◌, All}
use Rattle.std.proofs.lemmas.List.Elements.{All-head, All-tail}
use Rattle.plan_exact.specs.Expr.{neg}
use Rattle.plan_exact.specs.Formal.{A, B}
use Rattle.plan_exact.specs.Formal as F
use Rattle.plan_exact.specs.Vectors.{dot, env}
use Rattle.plan_exact.proofs.Laws.{linear}
use Rattle.plan_exact.proofs.Ring.{ring}
use Rattle.plan_exact.proofs.Vectors.{det_swapped_right}
use Rattle.plan_spec.specs.Polygon.{edges}
use Rattle.plan_spec.specs.Segment.{segment}
use Rattle.plan_spec.specs.Vector.{Vector, IsPoint, Same, Before, turn}
use Rattle.plan_plane.proofs.Lists.{all_right}
use Rattle.plan_plane.proofs.Polygon.Corner.{polygon, corner_edges}
use Rattle.plan_plane.proofs.Segment.Between.{Between, LtX_after, flip, flipped, on, swapped}
use Rattle.plan_plane.proofs.Segment.Line.{right, formal_right}
use Rattle.plan_plane.proofs.Segment.Middle.{Middle, first, second, third, middle}
use Rattle.plan_plane.proofs.Segment.Same.{Same-swapped}
use Rattle.plan_plane.proofs.Segment.AtEnds.{first_weight, second_weight, pos_by_first, pos_by_second}
use Rattle.plan_poly.proofs.Loop.Loop.{IsEnd, Loop, Differ}
use Rattle.plan_poly.proofs.Loop.Parts.{EndWhereOn, vertices_end}

-- positive at what is right of v
abbrev line_right : Vector → Vector
line_right v = record { x = v.w; y = pos 0; w = neg_ℤ v.x }

line_right_is : (v p : Vector) → dot (line_right v) p ≡ right v p
line_right_is v p = ring (env [] (v ∷ p ∷ [])) (F.dot (record { x = A.w; y = F.zero; w = neg A.x }) B) (formal_right A B) tt

-- v is before both, so not between them
not_between : (v w u : Vector) → IsPoint v → Before v w → Before v u → ¬ (Same v u) → ¬ (Same v w) → ¬ (Between u w v)
not_between v w u hv (inl a) (inl b) nu nw m = let h = LtX_after hv m v b a in omega (arith, linear)
not_between v w u hv (inr a) (inr b) nu nw m = let h = LtX_after hv (flipped m) (flip v) b.1 a.1 in omega (arith, linear)
not_between v w u hv (inl a) (inr b) nu nw m =
    let l = line_right v in
    let e = b.0 in
    let h = pos_by_second m l (second_weight m nu) (omega (arith, linear, line_right_is v u)) (omega (arith, linear, line_right_is v w)) in
    omega (arith, linear, line_right_is v v)
not_between v w u hv (inr a) (inl b) nu nw m =
    let l = line_right v in
    let e = a.0 in
    let h = pos_by_first m l (first_weight m nw) (omega (arith, linear, line_right_is v u)) (omega (arith, linear, line_right_is v w)) in
    omega (arith, linear, line_right_is v v)

pub not_straight : (v w : Vector) (mid : List Vector) (u : Vector) → Loop (polygon v w mid u) → All (Before v) (w ∷ (mid ++ u ∷ [])) → ¬ (turn u v w ≡ pos 0)
not_straight v w mid u l least flat = by (middle u w v hu hw hv (omega (arith, linear, det_swapped_right u w v)))
  where
    hv : IsPoint v
    hv = All-head IsPoint v (w ∷ (mid ++ u ∷ [])) l.points

    tail : All IsPoint (w ∷ (mid ++ u ∷ []))
    tail = All-tail IsPoint v (w ∷ (mid ++ u ∷ [])) l.points

    hw : IsPoint w
    hw = All-head IsPoint w (mid ++ u ∷ []) tail

    hu : IsPoint u
    hu = All-head IsPoint u [] (all_right IsPoint mid (u ∷ []) (All-tail IsPoint w (mid ++ u ∷ []) tail))

    v_w : Differ v w
    v_w = All-head (Differ v) w (mid ++ u ∷ []) l.distinct.0

    v_u : Differ v u
    v_u = All-head (Differ v) u [] (all_right (Differ v) mid (u ∷ []) (All-tail (Differ v) w (mid ++ u ∷ []) l.distinct.0))

    w_u : Differ w u
    w_u = All-head (Differ w) u [] (all_right (Differ w) mid (u ∷ []) l.distinct.1.0)

    before_w : Before v w
    before_w = All-head (Before v) w (mid ++ u ∷ []) least

    before_u : Before v u
    before_u = All-head (Before v) u [] (all_right (Before v) mid (u ∷ []) (All-tail (Before v) w (mid ++ u ∷ []) least))

    Ends : Vector → Type 0
    Ends y = All (EndWhereOn y) (edges (polygon v w mid u))

    ends : All (λ y. All (EndWhereOn y) (edges (polygon v w mid u))) (w ∷ (mid ++ u ∷ []))
    ends = All-tail (λ y. All (EndWhereOn y) (edges (polygon v w mid u))) v (w ∷ (mid ++ u ∷ [])) (vertices_end (polygon v w mid u) l)

    ends_w : All (EndWhereOn w) (edges (polygon v w mid u))
    ends_w = All-head (λ y. All (EndWhereOn y) (edges (polygon v w mid u))) w (mid ++ u ∷ []) ends

    ends_u : All (EndWhereOn u) (edges (polygon v w mid u))
    ends_u = let P = λ (y : Vector). All (EndWhereOn y) (edges (polygon v w mid u)) in All-head P u [] (all_right P mid (u ∷ []) (All-tail P w (mid ++ u ∷ []) ends))

    u_on_first : IsEnd (segment v w) u → ⊥
    u_on_first (inl s) = v_u (Same-swapped u v s)
    u_on_first (inr s) = w_u (Same-swapped u w s)

    w_on_last : IsEnd (segment u v) w → ⊥
    w_on_last (inl s) = w_u s
    w_on_last (inr s) = v_w (Same-swapped w v s)

    by : Middle u w v → ⊥
    by (first m) = u_on_first ((corner_edges (EndWhereOn u) v w mid u ends_u).first (on (swapped m)))
    by (second m) = w_on_last ((corner_edges (EndWhereOn w) v w mid u ends_w).last (on m))
    by (third m) = not_between v w u hv before_w before_u v_u v_w m
