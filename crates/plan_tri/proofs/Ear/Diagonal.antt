-- The diagonal of an ear meets the edges at its two ends alone: elsewhere an edge would come into the ear, or have an end in it.
use Rattle.std.proofs.Common.{inl, inr, pos, ◌≡◌, ◌<ℤ◌, [], ◌∷◌, ◌≤ℤ◌, arith, ◌⊎◌, sym, List, subst, All, ◌++◌, get_or, refl}
use Rattle.std.proofs.lemmas.List.Elements.{All-head, All-tail}
use Rattle.plan_exact.specs.Expr.{◌⊕◌, ◌⊖◌, ◌⊗◌}
use Rattle.plan_exact.specs.Formal.{A, B, C, D}
use Rattle.plan_exact.specs.Formal as F
use Rattle.plan_exact.specs.Vectors.{env, cross, dot}
use Rattle.plan_exact.proofs.Certificates.{eq_from}
use Rattle.plan_exact.proofs.Laws.{linear}
use Rattle.plan_exact.proofs.Signs.{zeros, le_of_lt, le_or_lt, mul_pos, mul_pos_neg, mul_nonneg_nonpos, mul_of_zero, zero_of_mul, le_of_eq}
use Rattle.plan_exact.proofs.Vectors.{cross_on_left, cross_on_right, det_turned, det_swapped}
use Rattle.plan_spec.specs.Polygon.{edges}
use Rattle.plan_spec.specs.Segment.{Segment, segment, On}
use Rattle.plan_spec.specs.Vector.{Vector, IsPoint, Same, turn}
use Rattle.plan_plane.proofs.Lists.{all_right}
use Rattle.plan_plane.proofs.Near.{step, step_point, step_between, along_zero}
use Rattle.plan_plane.proofs.Polygon.Corner.{polygon, corner_edges}
use Rattle.plan_plane.proofs.Polygon.Cut.{chain}
use Rattle.plan_plane.proofs.Segment.Apart.{from_both, from_near}
use Rattle.plan_plane.proofs.Segment.AtEnds.{first_weight, second_weight, pos_by_first, pos_by_second}
use Rattle.plan_plane.proofs.Segment.Between.{Between, on, swapped, between, dot_between, zero_at}
use Rattle.plan_plane.proofs.Segment.Entry.{Entry, entry_at, through, at_own}
use Rattle.plan_plane.proofs.Segment.Part.{between_part}
use Rattle.plan_plane.proofs.Segment.Reversed.{on_reversed}
use Rattle.plan_plane.proofs.Segment.Same.{Same-trans, on_same}
use Rattle.plan_plane.proofs.Segment.SameSign.{zero_same, nonneg_same}
use Rattle.plan_plane.proofs.Segment.Whether.{same_or_not}
use Rattle.plan_poly.proofs.Loop.Corner.{points_of, Points}
use Rattle.plan_poly.proofs.Loop.Loop.{IsEnd, MeetRight, end_reversed}
use Rattle.plan_poly.proofs.Loop.Parts.{EndWhereOn, vertices_end}
use Rattle.plan_tri.proofs.Corner.Corner.{Clean}
use Rattle.plan_tri.proofs.Cut.Outside.{OneOf, strand_edges}
use Rattle.plan_tri.proofs.Ear.Ear.{InTriangle, AtEar, ear_clean}

pub end_moved : (s : Segment) (z u : Vector) → IsPoint u → Same z u → IsEnd s u → IsEnd s z
end_moved s z u hu e (inl f) = inl (Same-trans z u s.a hu e f)
end_moved s z u hu e (inr f) = inr (Same-trans z u s.b hu e f)

-- ---- where the lines of two sides meet
same_w : (v w u c : Vector) → pos 0 <ℤ turn u v w → turn v w c ≡ pos 0 → turn w u c ≡ pos 0 → Same c w
same_w v w u c h a f =
    let xs = env [] (v ∷ w ∷ u ∷ c ∷ []) in (
      eq_from xs (F.det C A B) ((A.x ⊗ B.w ⊖ B.x ⊗ A.w) ⊗ F.det B C D ⊕ (C.x ⊗ B.w ⊖ B.x ⊗ C.w) ⊗ F.det A B D) (D.x ⊗ B.w) (B.x ⊗ D.w) tt h (search zeros),
      eq_from xs (F.det C A B) ((A.y ⊗ B.w ⊖ B.y ⊗ A.w) ⊗ F.det B C D ⊕ (C.y ⊗ B.w ⊖ B.y ⊗ C.w) ⊗ F.det A B D) (D.y ⊗ B.w) (B.y ⊗ D.w) tt h (search zeros),
    )

same_u : (v w u c : Vector) → pos 0 <ℤ turn u v w → turn u v c ≡ pos 0 → turn w u c ≡ pos 0 → Same c u
same_u v w u c h b f =
    let xs = env [] (v ∷ w ∷ u ∷ c ∷ []) in (
      eq_from xs (F.det C A B) ((A.x ⊗ C.w ⊖ C.x ⊗ A.w) ⊗ F.det B C D ⊕ (B.x ⊗ C.w ⊖ C.x ⊗ B.w) ⊗ F.det C A D) (D.x ⊗ C.w) (C.x ⊗ D.w) tt h (search zeros),
      eq_from xs (F.det C A B) ((A.y ⊗ C.w ⊖ C.y ⊗ A.w) ⊗ F.det B C D ⊕ (B.y ⊗ C.w ⊖ C.y ⊗ B.w) ⊗ F.det C A D) (D.y ⊗ C.w) (C.y ⊗ D.w) tt h (search zeros),
    )

-- ---- a segment e o of the path, with e out of the triangle, that has a point z of the diagonal which is no end of it
record Crossing (v w u e o z : Vector) : Type 0 where
  turns_left : pos 0 <ℤ turn u v w
  w_point : IsPoint w
  u_point : IsPoint u
  e_point : IsPoint e
  o_point : IsPoint o
  z_point : IsPoint z
  e_out : ¬ (InTriangle v w u e)
  not_o : ¬ (Same z o)
  w_ends : EndWhereOn w (segment e o)
  u_ends : EndWhereOn u (segment e o)
  clear : Clean v w u (cross w u) (segment e o)
  way : Between e o z
  after : pos 0 <ℤ turn v w z
  before : pos 0 <ℤ turn u v z
  level : turn w u z ≡ pos 0

-- no point of the segment is a little ahead of z
not_ahead : {v w u e o z : Vector} → Crossing v w u e o z → (p : Vector) → IsPoint p → ((c : Vector) → Between p z c → Between e o c) → turn w u p ≤ℤ pos 0
not_ahead {v} {w} {u} {e} {o} {z} k p hp part = by (le_or_lt (turn w u p) (pos 0))
  where
    by : (turn w u p ≤ℤ pos 0) ⊎ (pos 0 <ℤ turn w u p) → turn w u p ≤ℤ pos 0
    by (inl h) = h
    by (inr h) =
        let f = from_both (from_near (cross v w) z p k.after) (from_near (cross u v) z p k.before) in
        let n = f.least in
        let g = f.on n (omega (arith, linear)) in
        let c = step n z p in
        let hc = step_point z p n k.z_point (le_of_lt hp) f.positive in
        let b = part c (swapped (step_between n z p (le_of_lt f.positive))) in
        absurd (k.clear c hc (on b) (record { after = le_of_lt g.0; before = le_of_lt g.1; within = omega (arith, linear, along_zero (cross w u) z p n k.level, h) }))

crossing : {v w u e o z : Vector} → Crossing v w u e o z → ⊥
crossing {v} {w} {u} {e} {o} {z} k = by (le_or_lt (pos 0) (turn v w e)) (le_or_lt (pos 0) (turn u v e))
  where
    m : Between e o z
    m = k.way

    fe : turn w u e ≤ℤ pos 0
    fe = not_ahead k e k.e_point (λ c n. between_part k.way n)

    fo : turn w u o ≤ℤ pos 0
    fo = not_ahead k o k.o_point (λ c n. swapped (between_part (swapped k.way) n))

    first : pos 0 <ℤ k.way.first
    first = first_weight k.way k.not_o

    level_e : turn w u e ≡ pos 0
    level_e = zero_of_mul k.way.first (turn w u e) first (omega (arith, linear, dot_between k.way (cross w u), mul_of_zero k.way.scale (turn w u z) k.level, mul_nonneg_nonpos k.way.first_nonneg fe, mul_nonneg_nonpos k.way.second_nonneg fo))

    -- the point where the segment meets the line of a side, by a covector l that is 0 at the corner c there
    at : (l c : Vector) → IsPoint c → dot l c ≡ pos 0 → EndWhereOn c (segment e o) → ((y : Vector) → dot l y ≡ pos 0 → turn w u y ≡ pos 0 → Same y c) → dot l e <ℤ pos 0 → pos 0 <ℤ dot l z → ⊥
    at l c hc zero ends same le lz = go (through l l e z k.e_point k.z_point (le_of_lt lz) le (le_of_eq (sym entry_zero)))
      where
        entry_zero : dot l (entry_at l e z) ≡ pos 0
        entry_zero = at_own l e z

        finish : IsEnd (segment e o) c → ⊥
        finish (inl s) = omega (arith, linear, le, zero_same l c e hc s zero)
        finish (inr s) =
            let lo = zero_same l c o hc s zero in
            omega (arith, linear, dot_between k.way l, mul_pos k.way.scale_positive lz, mul_pos_neg first le, mul_of_zero k.way.second (dot l o) lo)

        zero_side : (y : Vector) → ((dot l y ≡ pos 0) × (pos 0 ≤ℤ dot l y)) ⊎ ((dot l y ≡ pos 0) × (pos 0 ≤ℤ dot l y)) → dot l y ≡ pos 0
        zero_side y (inl h) = h.0
        zero_side y (inr h) = h.0

        go : Entry l l e z → ⊥
        go n =
            let y = n.at in
            let level_y = zero_at n.between (cross w u) level_e k.level in
            let at_c = same y (zero_side y n.side) level_y in
            finish (ends (on_same e o y c k.e_point k.o_point n.point hc at_c (on (between_part k.way n.between))))

    by : (pos 0 ≤ℤ turn v w e) ⊎ (turn v w e <ℤ pos 0) → (pos 0 ≤ℤ turn u v e) ⊎ (turn u v e <ℤ pos 0) → ⊥
    by (inl x) (inl y) = k.e_out (record { after = x; ahead = le_of_eq (sym level_e); before = y })
    by (inr x) t = at (cross v w) w k.w_point (cross_on_right v w) k.w_ends (λ y a f. same_w v w u y k.turns_left a f) x k.after
    by s (inr y) = at (cross u v) u k.u_point (cross_on_left u v) k.u_ends (λ y b f. same_u v w u y k.turns_left b f) y k.before

-- ---- the diagonal meets the edges at vertices alone
inside_same : {v w u z e : Vector} → IsPoint z → IsPoint e → Same z e → InTriangle v w u z → InTriangle v w u e
inside_same {v} {w} {u} {z} {e} hz he s i = record {
  after = nonneg_same (cross v w) z e hz he s i.after;
  ahead = nonneg_same (cross w u) z e hz he s i.ahead;
  before = nonneg_same (cross u v) z e hz he s i.before;
}

-- a point of the diagonal that is no end of it
pub record OnDiagonal (v w u z : Vector) : Type 0 where
  pub after : pos 0 <ℤ turn v w z
  pub before : pos 0 <ℤ turn u v z
  pub level : turn w u z ≡ pos 0

pub on_diagonal : {v w : Vector} {mid : List Vector} {u : Vector} → AtEar v w mid u → (z : Vector) → IsPoint z → On (segment u w) z → ¬ (Same z u) → ¬ (Same z w) → OnDiagonal v w u z
on_diagonal {v} {w} {mid} {u} k z hz o not_u not_w =
    let p = points_of k.at in
    let m = between u w z p.u_point p.w_point hz o in
    record {
      after = pos_by_first m (cross v w) (first_weight m not_w) (omega (arith, linear, k.at.turns_left, det_turned u v w)) (le_of_eq (sym (cross_on_right v w)));
      before = pos_by_second m (cross u v) (second_weight m not_u) (le_of_eq (sym (cross_on_left u v))) k.at.turns_left;
      level = omega (arith, linear, o.in_line, det_swapped w u z);
    }

abbrev Vertex : Vector → Vector → Vector → Vector → Type 0
Vertex v w u o = IsPoint o × ((o ≡ w) ⊎ ((o ≡ u) ⊎ ¬ (InTriangle v w u o)))

ear_meets_segment : {v w : Vector} {mid : List Vector} {u : Vector} → AtEar v w mid u → (e o : Vector) → IsPoint e → ¬ (InTriangle v w u e) → Vertex v w u o → EndWhereOn w (segment e o) → EndWhereOn u (segment e o) → Clean v w u (cross w u) (segment e o) → MeetRight (segment u w) (segment e o)
ear_meets_segment {v} {w} {mid} {u} k e o he out vo w_ends u_ends clear z hz a b = by (same_or_not z u) (same_or_not z w)
  where
    p : Points v w mid u
    p = points_of k.at

    inside : OnDiagonal v w u z → InTriangle v w u z
    inside d = record { after = le_of_lt d.after; ahead = le_of_eq (sym d.level); before = le_of_lt d.before }

    by : Same z u ⊎ ¬ (Same z u) → Same z w ⊎ ¬ (Same z w) → IsEnd (segment u w) z × IsEnd (segment e o) z
    by (inl s) t = (inl s, end_moved (segment e o) z u (points_of k.at).u_point s (u_ends (on_same e o z u he vo.0 hz (points_of k.at).u_point s b)))
    by s (inl t) = (inr t, end_moved (segment e o) z w (points_of k.at).w_point t (w_ends (on_same e o z w he vo.0 hz (points_of k.at).w_point t b)))
    by (inr not_u) (inr not_w) =
        let d = on_diagonal k z hz a not_u not_w in
        absurd (crossing (record {
          turns_left = k.at.turns_left;
          w_point = (points_of k.at).w_point;
          u_point = (points_of k.at).u_point;
          e_point = he;
          o_point = vo.0;
          z_point = hz;
          e_out = out;
          not_o = not_o d vo.1;
          w_ends = w_ends;
          u_ends = u_ends;
          clear = clear;
          way = between e o z he vo.0 hz b;
          after = d.after;
          before = d.before;
          level = d.level;
        }))
      where
        not_o : OnDiagonal v w u z → (o ≡ w) ⊎ ((o ≡ u) ⊎ ¬ (InTriangle v w u o)) → ¬ (Same z o)
        not_o d (inl q) s = not_w (subst (Same z) q s)
        not_o d (inr (inl q)) s = not_u (subst (Same z) q s)
        not_o d (inr (inr n)) s = n (inside_same hz vo.0 s (inside d))

-- the same from the other end
ear_meets_reversed : {v w : Vector} {mid : List Vector} {u : Vector} → AtEar v w mid u → (e o : Vector) → IsPoint e → ¬ (InTriangle v w u e) → Vertex v w u o → EndWhereOn w (segment o e) → EndWhereOn u (segment o e) → Clean v w u (cross w u) (segment o e) → MeetRight (segment u w) (segment o e)
ear_meets_reversed {v} {w} {mid} {u} k e o he out vo w_ends u_ends clear z hz a b =
    let m = ear_meets_segment k e o he out vo
    (λ on. end_reversed o e w (w_ends (on_reversed e o w on)))
    (λ on. end_reversed o e u (u_ends (on_reversed e o u on)))
    (λ y hy on. clear y hy (on_reversed e o y on))
    z hz a (on_reversed o e z b) in
    (m.0, end_reversed e o z m.1)

-- what is known of the end w, and of the end u, along the path
path_ends : {v w : Vector} {mid : List Vector} {u : Vector} → AtEar v w mid u → (y : Vector) → All (EndWhereOn y) (edges (polygon v w mid u)) → All (EndWhereOn y) (chain w mid u)
path_ends {v} {w} {mid} {u} k y h = (corner_edges (EndWhereOn y) v w mid u h).path

w_ends_of : {v w : Vector} {mid : List Vector} {u : Vector} → AtEar v w mid u → All (EndWhereOn w) (chain w mid u)
w_ends_of {v} {w} {mid} {u} k =
    let P = λ (y : Vector). All (EndWhereOn y) (edges (polygon v w mid u)) in
    path_ends k w (All-head P w (mid ++ u ∷ []) (All-tail P v (w ∷ (mid ++ u ∷ [])) (vertices_end (polygon v w mid u) k.at.loop)))

u_ends_of : {v w : Vector} {mid : List Vector} {u : Vector} → AtEar v w mid u → All (EndWhereOn u) (chain w mid u)
u_ends_of {v} {w} {mid} {u} k =
    let P = λ (y : Vector). All (EndWhereOn y) (edges (polygon v w mid u)) in
    path_ends k u (All-head P u [] (all_right P mid (u ∷ []) (All-tail P w (mid ++ u ∷ []) (All-tail P v (w ∷ (mid ++ u ∷ [])) (vertices_end (polygon v w mid u) k.at.loop)))))

pub ear_meets_path : {v w : Vector} {b : Vector} {bs : List Vector} {u : Vector} → AtEar v w (b ∷ bs) u → All (MeetRight (segment u w)) (chain w (b ∷ bs) u)
ear_meets_path {v} {w} {b} {bs} {u} k i d within = by (places i d within)
  where
    P : Vector → Type 0
    P e = IsPoint e × ¬ (InTriangle v w u e)

    Q : Vector → Type 0
    Q = Vertex v w u

    outs : All (λ e. IsPoint e × ¬ (InTriangle v w u e)) (b ∷ bs)
    outs j e less = ((points_of k.at).mid_points j e less, k.none j e less)

    weaker : (y : Vector) → IsPoint y × ¬ (InTriangle v w u y) → Vertex v w u y
    weaker y h = (h.0, inr (inr h.1))

    at_w : Vertex v w u w
    at_w = ((points_of k.at).w_point, inl refl)

    at_u : Vertex v w u u
    at_u = ((points_of k.at).u_point, inr (inl refl))

    places : All (OneOf (λ e. IsPoint e × ¬ (InTriangle v w u e)) (Vertex v w u)) (chain w (b ∷ bs) u)
    places = strand_edges (λ e. IsPoint e × ¬ (InTriangle v w u e)) (Vertex v w u) weaker w b bs u at_w outs at_u

    by : OneOf (λ e. IsPoint e × ¬ (InTriangle v w u e)) (Vertex v w u) (get_or (chain w (b ∷ bs) u) i d) → MeetRight (segment u w) (get_or (chain w (b ∷ bs) u) i d)
    by (inl h) = let s = get_or (chain w (b ∷ bs) u) i d in ear_meets_segment k s.a s.b h.0.0 h.0.1 h.1 (w_ends_of k i d within) (u_ends_of k i d within) (ear_clean k i d within)
    by (inr h) = let s = get_or (chain w (b ∷ bs) u) i d in ear_meets_reversed k s.b s.a h.1.0 h.1.1 h.0 (w_ends_of k i d within) (u_ends_of k i d within) (ear_clean k i d within)
