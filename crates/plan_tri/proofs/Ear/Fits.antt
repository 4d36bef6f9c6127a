-- An ear and what it leaves fit: a point of the ear is even in the rest, and the diagonal is held by the whole.
use Rattle.std.proofs.Common.{pos, ◌≤ℤ◌, inl, inr, ◌≡◌, arith, List, All, ◌<◌, ◌<ℤ◌, [], ◌∷◌, ◌⊎◌, subst, false, get_or, sym, ℕ, length, Any, ap₂, ◌∙◌}
use Rattle.std.proofs.lemmas.List.Elements.{All-head, All-tail, All-append, All-nil, All-cons}
use Rattle.plan_exact.specs.Vectors.{cross}
use Rattle.plan_exact.proofs.Laws.{linear}
use Rattle.plan_exact.proofs.Signs.{le_or_lt, le_of_lt, le_of_eq}
use Rattle.plan_exact.proofs.Vectors.{cross_on_left, cross_on_right}
use Rattle.plan_spec.specs.Parity.{parity, xor}
use Rattle.plan_spec.specs.Polygon.{edges, Inside}
use Rattle.plan_spec.specs.Segment.{Segment, segment, On, HasPoints, Common}
use Rattle.plan_spec.specs.SimplePolygon.{InPolygon}
use Rattle.plan_spec.specs.Vector.{Vector, turn, IsPoint, Same}
use Rattle.plan_plane.proofs.Lists.{all_right}
use Rattle.plan_plane.proofs.Near.{step, step_point, along_zero}
use Rattle.plan_plane.proofs.Polygon.Cut.{chain, part_one, edges_part}
use Rattle.plan_plane.proofs.Polygon.Edges.{ends_of_edges, edges_cut, vertices_on}
use Rattle.plan_plane.proofs.Polygon.Sides.{on_third}
use Rattle.plan_plane.proofs.Segment.Apart.{from_both, from_near, misses_by}
use Rattle.plan_plane.proofs.Segment.AtEnds.{second_weight, pos_by_second}
use Rattle.plan_plane.proofs.Segment.Between.{on, Between, between, nonneg_at}
use Rattle.plan_plane.proofs.Segment.Same.{on_same, Same-swapped}
use Rattle.plan_plane.proofs.Segment.Whether.{same_or_not, any_on}
use Rattle.plan_cross.proofs.ParityLaw.Closed.{parity_constant}
use Rattle.plan_poly.proofs.EvenOdd.Chains.{closed}
use Rattle.plan_poly.proofs.EvenOdd.Triangle.{inside_from, odd_inside}
use Rattle.plan_poly.proofs.Loop.Corner.{points_of, Points}
use Rattle.plan_tri.proofs.Corner.Corner.{Clean, InCorner}
use Rattle.plan_tri.proofs.Ear.Diagonal.{OnDiagonal, on_diagonal}
use Rattle.plan_tri.proofs.Ear.Ear.{AtEar, nonpos, ahead_v, ear_clean}
use Rattle.plan_tri.proofs.Ear.Rest.{rest, rest_even, from_u, points_u}
use Rattle.plan_tri.proofs.Region.Parts.{parities, Fit}

ear_even : {v w : Vector} {mid : List Vector} {u : Vector} → AtEar v w mid u → (z : Vector) → IsPoint z → InPolygon (part_one u (v ∷ []) w) z → All (λ s. ¬ (On s z)) (edges (rest w mid u)) → parity (edges (rest w mid u)) z ≡ false
ear_even {v} {w} {mid} {u} k z hz m off = by (le_or_lt (turn w u z) (pos 0))
  where
    p : Points v w mid u
    p = points_of k.at

    inside : Inside (u ∷ v ∷ w ∷ []) z
    inside = let p = points_of k.at in inside_from u v w z p.u_point p.v_point p.w_point hz k.at.turns_left m

    b : pos 0 ≤ℤ turn u v z
    b = inside 0 (segment u v) (omega arith)

    a : pos 0 ≤ℤ turn v w z
    a = inside 1 (segment u v) (omega arith)

    f : pos 0 ≤ℤ turn w u z
    f = inside 2 (segment u v) (omega arith)

    off_d : ¬ (On (segment u w) z)
    off_d =
        let P = λ (s : Segment). ¬ (On s z) in
        All-head P (segment u w) [] (all_right P (chain w mid u) (segment u w ∷ []) (subst (All P) (edges_part w mid u) off))

    by : (turn w u z ≤ℤ pos 0) ⊎ (pos 0 <ℤ turn w u z) → parity (edges (rest w mid u)) z ≡ false
    by (inr h) = rest_even k z hz a b h
    by (inl h) = absurd (off_d (on (on_third v w u z k.at.turns_left (omega (arith, linear, f)) a b)))

-- ---- the diagonal is held by the whole
ear_diagonal : {v w : Vector} {mid : List Vector} {u : Vector} → AtEar v w mid u → (z : Vector) → IsPoint z → On (segment u w) z → InPolygon (from_u v w mid u) z
ear_diagonal {v} {w} {mid} {u} k z hz o = by (any_on (edges (from_u v w mid u)) z)
  where
    all_points : All HasPoints (edges (from_u v w mid u))
    all_points = ends_of_edges IsPoint (from_u v w mid u) (points_u k)

    not_vertex : All (λ s. ¬ (On s z)) (edges (from_u v w mid u)) → (e : Vector) → IsPoint e → Any (λ s. On s e) (edges (from_u v w mid u)) → ¬ (Same z e)
    not_vertex off e he m same =
        let s = get_or (edges (from_u v w mid u)) m.0 m.1 in
        let h = all_points m.0 m.1 m.2 in
        off m.0 m.1 m.2 (on_same s.a s.b e z h.0 h.1 he hz (Same-swapped z e same) (subst (λ s. On s e) (sym m.3) m.4))

    there : OnDiagonal v w u z → All (λ s. ¬ (On s z)) (edges (from_u v w mid u)) → InPolygon (from_u v w mid u) z
    there d off =
        let p = points_of k.at in
        let f = from_both (from_near (cross v w) z v d.after) (from_near (cross u v) z v d.before) in
        let n = f.least in
        let g = f.on n (omega (arith, linear)) in
        let y = step n z v in
        let hy = step_point z v n hz (le_of_lt p.v_point) f.positive in
        let fy : pos 0 <ℤ turn w u y = omega (arith, linear, along_zero (cross w u) z v n d.level, ahead_v k) in
        let iy : InCorner v w u (cross w u) y = record { after = le_of_lt g.0; before = le_of_lt g.1; within = fy } in
        let two = rest_even k y hy (le_of_lt g.0) (le_of_lt g.1) fy in
        let one = odd_inside u v w y hy k.at.turns_left g.0 fy g.1 in
        let P = λ (s : Segment). ¬ (Common (segment z y) s) in
        let Off = λ (s : Segment). ¬ (On s z) in
        let cut = edges_cut u (v ∷ []) w mid in
        let off_path = all_right Off (chain u (v ∷ []) w) (chain w mid u) (subst (All Off) cut off) in
        let hp = all_right HasPoints (chain u (v ∷ []) w) (chain w mid u) (subst (All HasPoints) cut all_points) in
        let first = misses_by (cross u v) z y (segment u v) hz hy (p.u_point, p.v_point) d.before g.1 (nonpos (cross_on_left u v)) (nonpos (cross_on_right u v)) in
        let second = misses_by (cross v w) z y (segment v w) hz hy (p.v_point, p.w_point) d.after g.0 (nonpos (cross_on_left v w)) (nonpos (cross_on_right v w)) in
        let path = λ (i : ℕ) (e : Segment) (less : i < length (chain w mid u)). free d y hy iy (get_or (chain w mid u) i e) (hp i e less) (off_path i e less) (ear_clean k i e less) in
        let misses = subst (All P) (sym cut) (All-append P (chain u (v ∷ []) w) (chain w mid u) (All-cons P (segment u v) (segment v w ∷ []) first (All-cons P (segment v w) [] second (All-nil P))) path) in
        inr (parity_constant (edges (from_u v w mid u)) z y all_points (closed (from_u v w mid u)) hz hy misses ∙ parities u (v ∷ []) w mid y ∙ ap₂ xor one two)
      where
        free : OnDiagonal v w u z → (y : Vector) → IsPoint y → InCorner v w u (cross w u) y → (s : Segment) → HasPoints s → ¬ (On s z) → Clean v w u (cross w u) s → ¬ (Common (segment z y) s)
        free d y hy iy s hs off clear c = by (same_or_not c.0 z)
          where
            m : Between z y c.0
            m = between z y c.0 hz hy c.1 c.2

            by : Same c.0 z ⊎ ¬ (Same c.0 z) → ⊥
            by (inl e) = off (on_same s.a s.b c.0 z hs.0 hs.1 c.1 hz e c.3)
            by (inr n) = clear c.0 c.1 c.3 (record {
              after = nonneg_at m (cross v w) (le_of_lt d.after) iy.after;
              before = nonneg_at m (cross u v) (le_of_lt d.before) iy.before;
              within = pos_by_second m (cross w u) (second_weight m n) (le_of_eq (sym d.level)) iy.within;
            })

    by : Any (λ s. On s z) (edges (from_u v w mid u)) ⊎ All (λ s. ¬ (On s z)) (edges (from_u v w mid u)) → InPolygon (from_u v w mid u) z
    by (inl m) = inl m
    by (inr off) =
        let p = points_of k.at in
        let E = λ (y : Vector). Any (λ s. On s y) (edges (from_u v w mid u)) in
        let on_edges = vertices_on (from_u v w mid u) (points_u k) in
        let at_u = All-head E u (v ∷ w ∷ mid) on_edges in
        let at_w = All-head E w mid (All-tail E v (w ∷ mid) (All-tail E u (v ∷ w ∷ mid) on_edges)) in
        there (on_diagonal k z hz o (not_vertex off u p.u_point at_u) (not_vertex off w p.w_point at_w)) off

pub ear_fit : {v w : Vector} {mid : List Vector} {u : Vector} → AtEar v w mid u → Fit u (v ∷ []) w mid
ear_fit k = record { even = ear_even k; diagonal = ear_diagonal k }
