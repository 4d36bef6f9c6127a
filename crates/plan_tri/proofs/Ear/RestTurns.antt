-- The rest of an ear turns left at its least vertex. Else, read the other way round, it would have triangles, and the one at the diagonal would lie on the ear.
use Rattle.plan_poly.proofs.EvenOdd.Turned.{edges_turned, in_turned}
use Rattle.std.proofs.Common.{◌≡◌, inl, inr, pos, ◌<ℤ◌, List, ◌∷◌, sym, ◌∙◌, arith, ◌+◌, [], ◌++◌, All, Any, Contains, get_or, subst, ℕ, ◌≤◌, length}
use Rattle.std.proofs.lemmas.Bool.{true≢false}
use Rattle.std.proofs.lemmas.List.Elements.{All-head, All-contains}
use Rattle.plan_exact.specs.Sign.{Sign, is_negative, is_zero, is_positive}
use Rattle.plan_exact.specs.Vectors.{cross}
use Rattle.plan_exact.proofs.Laws.{linear, one_mul}
use Rattle.plan_exact.proofs.Signs.{le_of_lt, sign_of}
use Rattle.plan_exact.proofs.Vectors.{cross_on_left, cross_on_right, det_turned}
use Rattle.plan_spec.specs.Polygon.{Inside, edges}
use Rattle.plan_spec.specs.Segment.{On, Segment, segment}
use Rattle.plan_spec.specs.SimplePolygon.{InPolygon}
use Rattle.plan_spec.specs.Triangulation.{Triangle, corners}
use Rattle.plan_spec.specs.Vector.{Vector, IsPoint, turn}
use Rattle.plan_plane.proofs.Lists.{all_right}
use Rattle.plan_plane.proofs.Backwards.{back, length_back}
use Rattle.plan_plane.proofs.Segment.Apart.{From, from_both, from_near}
use Rattle.plan_plane.proofs.Near.{step, step_point, step_between, step_value, along_zero}
use Rattle.plan_plane.proofs.Polygon.Corner.{polygon}
use Rattle.plan_plane.proofs.Polygon.Cut.{part_one, chain, edges_part}
use Rattle.plan_plane.proofs.Polygon.Holding.{inside_between}
use Rattle.plan_plane.proofs.Lists.{no_one}
use Rattle.plan_poly.proofs.EvenOdd.Backwards.{in_polygon_back, edges_back, all_from_rev, turned}
use Rattle.plan_poly.proofs.FromLeast.Ready.{Ready, to_list}
use Rattle.plan_poly.proofs.Loop.Backwards.{reversed_is, reversed}
use Rattle.plan_poly.proofs.Loop.Corner.{Points, points_of, AtCorner}
use Rattle.plan_poly.proofs.Loop.Straight.{not_straight}
use Rattle.plan_tri.proofs.Ear.Ear.{AtEar}
use Rattle.plan_tri.proofs.Ear.Rest.{rest_even, rest_off}
use Rattle.plan_tri.proofs.Region.Third.{Third, third}
use Rattle.plan_tri.proofs.Region.Triangulated.{HasSide, Triangulated}

-- ---- no triangle with the side w u is in the rest
none : {v w : Vector} {b : Vector} {bs : List Vector} {u : Vector} → AtEar v w (b ∷ bs) u → (t : Triangle) → Third t w u → ((z : Vector) → IsPoint z → Inside (corners t) z → InPolygon (part_one w (b ∷ bs) u) z) → ⊥
none {v} {w} {b} {bs} {u} k t r within = by (within z hz iz)
  where
    p : Points v w (b ∷ bs) u
    p = points_of k.at

    base : Vector
    base = step (pos 1) w u

    h_base : IsPoint (step (pos 1) w u)
    h_base = let p = points_of k.at in step_point w u (pos 1) p.w_point (le_of_lt p.u_point) (omega (arith, linear))

    after : pos 0 <ℤ turn v w (step (pos 1) w u)
    after = omega (arith, linear, along_zero (cross v w) w u (pos 1) (cross_on_right v w), k.at.turns_left, det_turned u v w)

    before : pos 0 <ℤ turn u v (step (pos 1) w u)
    before = omega (arith, linear, step_value (pos 1) w u (cross u v), cross_on_left u v, k.at.turns_left, one_mul (turn u v w))

    level : turn w u (step (pos 1) w u) ≡ pos 0
    level = omega (arith, linear, along_zero (cross w u) w u (pos 1) (cross_on_left w u), cross_on_right w u)

    f : From (λ n. (pos 0 <ℤ turn v w (step n (step (pos 1) w u) r.s)) × (pos 0 <ℤ turn u v (step n (step (pos 1) w u) r.s)))
    f = from_both (from_near (cross v w) (step (pos 1) w u) r.s after) (from_near (cross u v) (step (pos 1) w u) r.s before)

    z : Vector
    z = step f.least (step (pos 1) w u) r.s

    hz : IsPoint (step f.least (step (pos 1) w u) r.s)
    hz = step_point (step (pos 1) w u) r.s f.least h_base (le_of_lt r.point) f.positive

    iz : Inside (corners t) (step f.least (step (pos 1) w u) r.s)
    iz =
        let i = inside_between (corners t) r.at_v r.at_x (step_between (pos 1) w u (omega (arith, linear))) in
        inside_between (corners t) i r.at_s (step_between f.least (step (pos 1) w u) r.s (le_of_lt f.positive))

    ahead : pos 0 <ℤ turn w u (step f.least (step (pos 1) w u) r.s)
    ahead = omega (arith, linear, along_zero (cross w u) (step (pos 1) w u) r.s f.least level, r.left)

    sides : (pos 0 <ℤ turn v w (step f.least (step (pos 1) w u) r.s)) × (pos 0 <ℤ turn u v (step f.least (step (pos 1) w u) r.s))
    sides = f.on f.least (omega (arith, linear))

    by : InPolygon (part_one w (b ∷ bs) u) (step f.least (step (pos 1) w u) r.s) → ⊥
    by (inl m) = no_one (λ s. On s (step f.least (step (pos 1) w u) r.s)) (edges (part_one w (b ∷ bs) u)) (rest_off k (step f.least (step (pos 1) w u) r.s) hz (le_of_lt sides.0) (le_of_lt sides.1) ahead) m
    by (inr odd) = true≢false (sym odd ∙ rest_even k (step f.least (step (pos 1) w u) r.s) hz (le_of_lt sides.0) (le_of_lt sides.1) ahead)

-- ---- so it turns left
clockwise : {v w : Vector} {b : Vector} {bs : List Vector} {u : Vector} → AtEar v w (b ∷ bs) u → (r : Ready (part_one w (b ∷ bs) u)) → (ts : List Triangle) → AtCorner r.v r.u (back r.mid) r.w → Triangulated (polygon r.v r.u (back r.mid) r.w) ts → ⊥
clockwise {v} {w} {b} {bs} {u} k r ts at d =
    let list = reversed_is r.v r.w r.mid r.u in
    let others = r.w ∷ (r.mid ++ r.u ∷ []) in
    let P = λ (s : Segment). Any (HasSide s) ts in
    let covered = subst (All P) (edges_back r.v others) (subst (λ us. All P (edges us)) (sym list) d.covered) in
    let all = to_list r (λ us. All (λ s. P (turned s)) (edges us)) (edges_turned (λ s. P (turned s))) (all_from_rev P (edges (r.v ∷ others)) covered) in
    let m = All-head (λ s. P (turned s)) (segment u w) [] (all_right (λ s. P (turned s)) (chain w (b ∷ bs) u) (segment u w ∷ []) (subst (All (λ s. P (turned s))) (edges_part w (b ∷ bs) u) all)) in
    let t = get_or ts m.0 m.1 in
    let has = d.vertices m.0 m.1 m.2 in
    let point = λ (y : Vector) (c : Contains (polygon r.v r.u (back r.mid) r.w) y). All-contains IsPoint (polygon r.v r.u (back r.mid) r.w) y at.loop.points c in
    let s = third t w u (point t.a has.0) (point t.b has.1) (point t.c has.2) (d.left m.0 m.1 m.2) (subst (HasSide (segment w u)) (sym m.3) m.4) in
    none k t s (λ z hz i. to_list r (λ us. InPolygon us z) (in_turned z) (in_polygon_back r.v others z (subst (λ us. InPolygon us z) (sym list) (d.within m.0 m.1 m.2 z hz i))))

-- the triangles of every smaller loop that turns left
abbrev pub Smaller : ℕ → (List Vector → List Triangle) → Type 0
Smaller k f = (v w : Vector) (mid : List Vector) (u : Vector) → length mid + 3 ≤ k → AtCorner v w mid u → Triangulated (polygon v w mid u) (f (polygon v w mid u))

pub rest_turns : {v w : Vector} {b : Vector} {bs : List Vector} {u : Vector} → AtEar v w (b ∷ bs) u → (r : Ready (part_one w (b ∷ bs) u)) → (k : ℕ) (f : List Vector → List Triangle) → length r.mid + 3 ≤ k → Smaller k f → AtCorner r.v r.w r.mid r.u
rest_turns {v} {w} {b} {bs} {u} e r k f long smaller = by (sign_of (turn r.u r.v r.w))
  where
    by : Sign (turn r.u r.v r.w) → AtCorner r.v r.w r.mid r.u
    by (is_positive h) = record { loop = r.loop; least = r.first; turns_left = h }
    by (is_zero z) = absurd (not_straight r.v r.w r.mid r.u r.loop r.first z)
    by (is_negative h) =
        let at = reversed r.v r.w r.mid r.u r.loop r.first h in
        absurd (clockwise e r (f (polygon r.v r.u (back r.mid) r.w)) at (smaller r.v r.u (back r.mid) r.w (omega (arith, long, length_back r.mid)) at))
