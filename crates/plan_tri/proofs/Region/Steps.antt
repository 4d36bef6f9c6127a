-- The triangles of a loop that turns left at its least vertex make up its region: by an ear, or by a cut.
use Rattle.plan_tri.proofs.Region.Farthest.{by_distance}
use Rattle.plan_poly.proofs.FromLeast.Ready.{to_list, split_last, split_front, ready}
use Rattle.std.proofs.Common.{◌≡◌, ◌≤◌, ℤ, pos, ◌≤ℤ◌, true, arith, ◌&&◌, List, [], ◌∷◌, refl, ap₂, ◌+◌, ◌++◌, append-nil, ap, ◌∙◌, ℕ, zero, suc, sym, inl, inr, ◌<ℤ◌, All, Any, Contains, Bool, false, cond, Some, length, length-append, subst, append_assoc, Option, None, get_or}
use Rattle.std.proofs.lemmas.Bool.{and_parts, and_from, true≢false}
use Rattle.std.proofs.lemmas.Int.{ints}
use Rattle.std.proofs.lemmas.List.Elements.{All-nil, All-tail, All-cons, All-contains_itself, All-head, All-append}
use Rattle.std.specs.Prelude.{int_le}
use Rattle.plan_exact.proofs.Laws.{linear}
use Rattle.plan_exact.proofs.Tests.{lt_true}
use Rattle.plan_exact.proofs.Vectors.{det_turned}
use Rattle.plan_spec.specs.Polygon.{Inside}
use Rattle.plan_spec.specs.Segment.{segment, Segment}
use Rattle.plan_spec.specs.SimplePolygon.{InPolygon}
use Rattle.plan_spec.specs.Triangulation.{in_triangle, Triangle, part_at_best, farther, ear_or_cut, from_corner, from_least, triangles_within, corners, comes_before, from_part, Parted}
use Rattle.plan_spec.specs.Vector.{turn, IsPoint, Before, Vector}
use Rattle.plan_plane.proofs.Lists.{any_here, all_right, all_left}
use Rattle.plan_plane.proofs.Polygon.Corner.{polygon}
use Rattle.plan_plane.proofs.Polygon.Cut.{part_one}
use Rattle.plan_plane.proofs.Polygon.Triangle.{inside_turned}
use Rattle.plan_poly.proofs.EvenOdd.Triangle.{inside_from, from_inside}
use Rattle.plan_poly.proofs.FromLeast.Best.{IsBest, Found, best}
use Rattle.plan_poly.proofs.FromLeast.ByPlace.{from_least_is}
use Rattle.plan_poly.proofs.Loop.Corner.{AtCorner, points_of}
use Rattle.plan_poly.proofs.Loop.Parts.{rotated}
use Rattle.plan_tri.proofs.Cut.Cutting.{AtCut, second, after_x, before_x, Farther}
use Rattle.plan_tri.proofs.Cut.Loops.{loop_one, loop_two}
use Rattle.plan_tri.proofs.Cut.Together.{cut}
use Rattle.plan_tri.proofs.Ear.Ear.{InTriangle, AtEar}
use Rattle.plan_tri.proofs.Ear.Fits.{ear_fit}
use Rattle.plan_tri.proofs.Ear.Rest.{rest_loop}
use Rattle.plan_tri.proofs.Ear.RestTurns.{Smaller, rest_turns}
use Rattle.plan_tri.proofs.Region.Parts.{of_parts}
use Rattle.plan_tri.proofs.Region.Triangulated.{HasSide, Triangulated, triangles_turned}

-- ---- the tests of the function
le_in : (n : ℤ) → int_le (pos 0) n ≡ true → pos 0 ≤ℤ n
le_in n e = omega (arith, ints)

le_out : (n : ℤ) → pos 0 ≤ℤ n → int_le (pos 0) n ≡ true
le_out n h = grind (arith, ints)

triangle_in : (v w u z : Vector) → in_triangle v w u z ≡ true → InTriangle v w u z
triangle_in v w u z e =
    let h = and_parts (int_le (pos 0) (turn v w z)) (int_le (pos 0) (turn w u z) && int_le (pos 0) (turn u v z)) e in
    let k = and_parts (int_le (pos 0) (turn w u z)) (int_le (pos 0) (turn u v z)) h.1 in
    record { after = le_in (turn v w z) h.0; ahead = le_in (turn w u z) k.0; before = le_in (turn u v z) k.1 }

triangle_out : (v w u z : Vector) → InTriangle v w u z → in_triangle v w u z ≡ true
triangle_out v w u z i =
    and_from (int_le (pos 0) (turn v w z)) (int_le (pos 0) (turn w u z) && int_le (pos 0) (turn u v z)) (le_out (turn v w z) i.after)
    (and_from (int_le (pos 0) (turn w u z)) (int_le (pos 0) (turn u v z)) (le_out (turn w u z) i.ahead) (le_out (turn u v z) i.before))

abbrev pub at_corner : (List Vector → List Triangle) → Vector → Vector → List Vector → Vector → List Triangle
at_corner f v w mid u = ear_or_cut f v w mid u (part_at_best (in_triangle v w u) (farther w u) mid)

pub corner_is : (f : List Vector → List Triangle) (v w : Vector) (mid : List Vector) (u : Vector) → from_corner f (polygon v w mid u) ≡ at_corner f v w mid u
corner_is f v w [] u = refl
corner_is f v w (m ∷ ms) u = ap₂ (λ mid u. at_corner f v w mid u) (split_front m ms u) (split_last m ms u)

pub own_least : {v w : Vector} {mid : List Vector} {u : Vector} → AtCorner v w mid u → from_least (polygon v w mid u) ≡ polygon v w mid u
own_least {v} {w} {mid} {u} k =
    let rest = w ∷ (mid ++ u ∷ []) in
    from_least_is [] v rest (All-tail IsPoint v rest k.loop.points) (All-nil (Before v)) k.least ∙ ap (λ zs. v ∷ zs) (append-nil rest)

pub same_triangles : (k : ℕ) (vs us : List Vector) → from_least vs ≡ us → from_least us ≡ us → triangles_within k vs ≡ triangles_within k us
same_triangles zero vs us e f = refl
same_triangles (suc k) vs us e f = ap (from_corner (triangles_within k)) (e ∙ sym f)

-- ---- one triangle
abbrev triangle : Vector → Vector → Vector → Triangle
triangle a b c = record { a = a; b = b; c = c }

-- the three vertices from the last one on
alone_from_u : (v w u : Vector) → IsPoint v → IsPoint w → IsPoint u → Before v w → Before v u → pos 0 <ℤ turn u v w → Triangulated (u ∷ v ∷ w ∷ []) (triangle v w u ∷ [])
alone_from_u v w u hv hw hu bw bu left = record {
  left = All-cons (λ t. pos 0 <ℤ turn t.a t.b t.c) t [] (omega (arith, linear, left, det_turned u v w)) (All-nil (λ t. pos 0 <ℤ turn t.a t.b t.c));
  least = All-cons (λ t. Before t.a t.b × Before t.a t.c) t [] (bw, bu) (All-nil (λ t. Before t.a t.b × Before t.a t.c));
  vertices = All-cons (λ t. Contains list t.a × Contains list t.b × Contains list t.c) t [] (itself 1 v (omega arith), itself 2 v (omega arith), itself 0 v (omega arith)) (All-nil (λ t. Contains list t.a × Contains list t.b × Contains list t.c));
  covered = All-cons S (segment u v) (segment v w ∷ segment w u ∷ []) (side (segment u v) (inr (inr refl))) (All-cons S (segment v w) (segment w u ∷ []) (side (segment v w) (inl refl)) (All-cons S (segment w u) [] (side (segment w u) (inr (inl refl))) (All-nil S)));
  within = All-cons W t [] (λ z hz i. from_inside u v w z hz left (inside_turned w u v z (inside_turned v w u z i))) (All-nil W);
  held = λ z hz m. any_here (λ t. Inside (corners t) z) t [] (inside_turned u v w z (inside_from u v w z hu hv hw hz left m));
  count = refl;
}
  where
    t : Triangle
    t = triangle v w u

    list : List Vector
    list = u ∷ v ∷ w ∷ []

    itself : All (Contains (u ∷ v ∷ w ∷ [])) (u ∷ v ∷ w ∷ [])
    itself = All-contains_itself (u ∷ v ∷ w ∷ [])

    S : Segment → Type 0
    S s = Any (HasSide s) (triangle v w u ∷ [])

    W : Triangle → Type 0
    W t = (z : Vector) → IsPoint z → Inside (corners t) z → InPolygon (u ∷ v ∷ w ∷ []) z

    side : (s : Segment) → HasSide s (triangle v w u) → Any (HasSide s) (triangle v w u ∷ [])
    side s h = any_here (HasSide s) (triangle v w u) [] h

-- ---- two vertices have no triangle
pub two_none : (k : ℕ) (w u : Vector) → triangles_within k (w ∷ u ∷ []) ≡ []
two_none zero w u = refl
two_none (suc k) w u = by (comes_before u w)
  where
    by : (t : Bool) → from_corner (triangles_within k) (from_part (cond t (Some (record { before = w ∷ []; at = u; after = [] })) (Some (record { before = []; at = w; after = u ∷ [] })))) ≡ []
    by true = refl
    by false = refl

-- ---- the two steps
neighbours_before : {v w : Vector} {mid : List Vector} {u : Vector} → AtCorner v w mid u → Before v w × Before v u
neighbours_before {v} {w} {mid} {u} k = (All-head (Before v) w (mid ++ u ∷ []) k.least, All-head (Before v) u [] (all_right (Before v) mid (u ∷ []) (All-tail (Before v) w (mid ++ u ∷ []) k.least)))

one_of : {v w : Vector} {mid : List Vector} {u : Vector} → AtCorner v w mid u → Triangulated (u ∷ v ∷ w ∷ []) (triangle v w u ∷ [])
one_of {v} {w} {mid} {u} k =
    let p = points_of k in
    let b = neighbours_before k in
    alone_from_u v w u p.v_point p.w_point p.u_point b.0 b.1 k.turns_left

ear_step : (k : ℕ) → Smaller k (triangles_within k) → (v w : Vector) (mid : List Vector) (u : Vector) → length mid + 3 ≤ suc k → AtEar v w mid u → Triangulated (polygon v w mid u) (triangle v w u ∷ triangles_within k (w ∷ (mid ++ u ∷ [])))
ear_step k smaller v w [] u long e =
    subst (λ ts. Triangulated (polygon v w [] u) (triangle v w u ∷ ts)) (sym (two_none k w u)) (triangles_turned (triangle v w u ∷ []) u [] v (w ∷ []) (one_of e.at))
ear_step k smaller v w (b ∷ bs) u long e =
    let rest = part_one w (b ∷ bs) u in
    let size = length-append (b ∷ bs) (u ∷ []) in
    let r = ready rest (rest_loop e) (omega (arith, size)) in
    let at = rest_turns e r k (triangles_within k) (omega (arith, size, long, r.size)) smaller in
    let d = to_list r (λ us. Triangulated us (triangles_within k (polygon r.v r.w r.mid r.u))) (triangles_turned (triangles_within k (polygon r.v r.w r.mid r.u))) (smaller r.v r.w r.mid r.u (omega (arith, size, long, r.size)) at) in
    let us = subst (Triangulated rest) (sym (same_triangles k rest (polygon r.v r.w r.mid r.u) r.from (own_least at))) d in
    triangles_turned (triangle v w u ∷ triangles_within k rest) u [] v (w ∷ b ∷ bs) (of_parts u (v ∷ []) w (b ∷ bs) (triangle v w u ∷ []) (triangles_within k rest) (ear_fit e) (one_of e.at) us)

cut_step : (k : ℕ) → Smaller k (triangles_within k) → (v w : Vector) (pre : List Vector) (x : Vector) (post : List Vector) (u : Vector) → length (pre ++ x ∷ post) + 3 ≤ suc k → AtCut v w pre x post u
    → Triangulated (polygon v w (pre ++ x ∷ post) u) (triangles_within k (v ∷ (w ∷ (pre ++ x ∷ []))) ++ triangles_within k (x ∷ (post ++ u ∷ v ∷ [])))
cut_step k smaller v w pre x post u long c =
    let size = length-append pre (x ∷ post) in
    let others = subst (All (Before v)) (ap (λ zs. w ∷ zs) (append_assoc pre (x ∷ post) (u ∷ []))) c.at.least in
    let tail = all_right (Before v) (w ∷ pre) (x ∷ second post u) others in
    let first : AtCorner v w pre x = record {
      loop = loop_one c;
      least = All-append (Before v) (w ∷ pre) (x ∷ []) (all_left (Before v) (w ∷ pre) (x ∷ second post u) others) (All-cons (Before v) x [] (All-head (Before v) x (second post u) tail) (All-nil (Before v)));
      turns_left = omega (arith, linear, after_x c, det_turned x v w);
    } in
    let last : AtCorner v x post u = record { loop = rotated x (second post u) v [] (loop_two c); least = tail; turns_left = before_x c } in
    let two = x ∷ (post ++ u ∷ v ∷ []) in
    let list : two ≡ part_one x (second post u) v = ap (λ zs. x ∷ zs) (sym (append_assoc post (u ∷ []) (v ∷ []))) in
    let from : from_least (part_one x (second post u) v) ≡ polygon v x post u = from_least_is (x ∷ second post u) v [] (All-nil IsPoint) tail (All-nil (Before v)) in
    let same = same_triangles k (part_one x (second post u) v) (polygon v x post u) from (own_least last) in
    let ts = triangles_within k (polygon v x post u) in
    let us = triangles_turned ts v [] x (second post u) (smaller v x post u (omega (arith, size, long)) last) in
    let ends = same ∙ refl in
    cut c (triangles_within k (polygon v w pre x)) (triangles_within k two) (smaller v w pre x (omega (arith, size, long)) first)
    (subst (Triangulated (part_one x (second post u) v)) (sym (ap (triangles_within k) list ∙ same)) us)

-- ---- the theorem
pub region : (k : ℕ) → Smaller k (triangles_within k)
region zero v w mid u long at = absurd (omega (arith, long))
region (suc k) v w mid u long at =
    subst (Triangulated (polygon v w mid u)) (sym (ap (from_corner (triangles_within k)) (own_least at) ∙ corner_is (triangles_within k) v w mid u))
    (step (region k) mid long at (part_at_best (in_triangle v w u) (farther w u) mid) (best (in_triangle v w u) (farther w u) (by_distance w u) mid (points_of at).mid_points))
  where
    step : Smaller k (triangles_within k) → (mid : List Vector) → length mid + 3 ≤ suc k → AtCorner v w mid u → (r : Option Parted) → IsBest (in_triangle v w u) (farther w u) mid r → Triangulated (polygon v w mid u) (ear_or_cut (triangles_within k) v w mid u r)
    step smaller mid long at None none = ear_step k smaller v w mid u long (record { at = at; none = λ i d within inside. true≢false (sym (triangle_out v w u (get_or mid i d) inside) ∙ none i d within) })
    step smaller mid long at (Some p) found = parted smaller p mid found.parts long at found
      where
        parted : Smaller k (triangles_within k) → (p : Parted) (mid : List Vector) → mid ≡ p.before ++ p.at ∷ p.after → length mid + 3 ≤ suc k → AtCorner v w mid u → Found (in_triangle v w u) (farther w u) mid p
            → Triangulated (polygon v w mid u) (triangles_within k (v ∷ (w ∷ (p.before ++ p.at ∷ []))) ++ triangles_within k (p.at ∷ (p.after ++ u ∷ v ∷ [])))
        parted smaller p mid e long at found =
            let all = p.before ++ p.at ∷ p.after in
            let c : AtCut v w p.before p.at p.after u = record {
              at = subst (λ m. AtCorner v w m u) e at;
              inside = triangle_in v w u p.at found.is_wanted;
              farthest = subst (All (λ m. InTriangle v w u m → ¬ (Farther w u m p.at))) e (λ i d within inside far. true≢false (sym (lt_true far) ∙ found.best i d within (triangle_out v w u (get_or mid i d) inside)));
            } in
            subst (λ m. Triangulated (polygon v w m u) (triangles_within k (v ∷ (w ∷ (p.before ++ p.at ∷ []))) ++ triangles_within k (p.at ∷ (p.after ++ u ∷ v ∷ [])))) (sym e) (cut_step k smaller v w p.before p.at p.after u (subst (λ m. length m + 3 ≤ suc k) e long) c)
