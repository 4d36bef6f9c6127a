-- The sums of a scene whose parts are pairs of triangles: each has three vertices at least, and they are points, since it holds a point and does not go on for ever. So they make up a floor, and all ways to write them are alike.
use Rattle.std.proofs.Common.{◌≡◌, ◌⊎◌, inl, inr, ⊎_elim, ℕ, suc, ◌<◌, ◌≤◌, ℤ, pos, neg_ℤ, ◌≤ℤ◌, ◌<ℤ◌, List, [], ◌∷◌, length, get_or, All, refl, sym, subst, eq-or-lt_of_le, arith}
use Rattle.std.proofs.lemmas.Bool.{cases_order}
use Rattle.std.proofs.lemmas.List.Elements.{All-nil, All-cons, All-head, All-tail}
use Rattle.std.specs.List.{AllZip}
use Rattle.plan_exact.specs.Expr.{var, con, ◌⊕◌, ◌⊗◌, neg}
use Rattle.plan_exact.specs.Formal as F
use Rattle.plan_exact.specs.Formal.{A}
use Rattle.plan_exact.specs.Vectors.{sum, scaled, dot, cross, env}
use Rattle.plan_exact.proofs.Laws.{linear}
use Rattle.plan_exact.proofs.Ring.{ring}
use Rattle.plan_exact.proofs.Signs.{le_or_lt, le_of_lt, mul_nonneg, mul_pos, zeros}
use Rattle.plan_exact.proofs.Vectors.{dot_combination_right, det_swapped, det_same, cross_on_left, cross_on_right}
use Rattle.plan_spec.specs.Vector.{Vector, IsPoint, turn}
use Rattle.plan_spec.specs.Segment.{Segment, segment}
use Rattle.plan_spec.specs.Polygon.{OnOrLeft, Inside, EndOrLeft, IsConvex, edges}
use Rattle.plan_spec.specs.Frame.{Frame}
use Rattle.plan_spec.specs.Room.{IsRoom}
use Rattle.plan_spec.specs.Placement.{Scene}
use Rattle.plan_spec.specs.Sums as spec
use Rattle.plan_spec.specs.Sums.{Part, parts, AreSums}
use Rattle.plan_plane.proofs.Boundary.Blocks.{HasSpots}
use Rattle.plan_plane.proofs.Boundary.Floor.{IsFloor}
use Rattle.plan_plane.proofs.Boundary.Sum.{IsSum}
use Rattle.plan_plane.proofs.Polygon.Numbered.{length_edges, edge_next, edge_last}
use Rattle.plan_ring.specs.Alike.{IsPair, HasTriangles, AlikeSums}
use Rattle.plan_ring.proofs.Alike.Vertices.{apart}
use Rattle.plan_ring.proofs.Alike.Bounded.{IsBounded, difference_bounded, some_placement, no_direction}
use Rattle.plan_ring.proofs.Alike.Polygon.{polygons_alike}

-- ---- a polygon that holds a point and is bounded
pub record IsFinite (vs : List Vector) : Type 0 where
  pub convex : IsConvex vs
  pub bounded : IsBounded (Inside vs)
  pub at : Vector
  pub at_point : IsPoint at
  pub held : Inside vs at

-- it goes on for ever in no direction
none_on : {vs : List Vector} → IsFinite vs → (x y : ℤ) → Inside vs (record { x = x; y = y; w = pos 0 }) → (x ≡ pos 0) × (y ≡ pos 0)
none_on {vs} h x y inside = no_direction vs h.at (record { x = x; y = y; w = pos 0 }) h.bounded h.at_point h.held refl inside

abbrev rightward : Vector
rightward = record { x = pos 1; y = pos 0; w = pos 0 }

not_rightward : {vs : List Vector} → IsFinite vs → ¬ (Inside vs rightward)
not_rightward h inside = omega (arith, linear, (none_on h (pos 1) (pos 0) inside).0)

-- both edges of a list of two vertices lie on one line
two : (a b z : Vector) → turn a b z ≡ pos 0 → Inside (a ∷ b ∷ []) z
two a b z e = All-cons (OnOrLeft z) (segment a b) (segment b a ∷ []) (omega (arith, linear, e)) (All-cons (OnOrLeft z) (segment b a) [] (omega (arith, linear, e, det_swapped b a z)) (All-nil (OnOrLeft z)))

pub long : (vs : List Vector) → IsFinite vs → 3 ≤ length vs
long [] h = absurd (not_rightward h (All-nil (OnOrLeft rightward)))
long (a ∷ []) h = absurd (not_rightward h (All-cons (OnOrLeft rightward) (segment a a) [] (omega (arith, linear, det_same a rightward)) (All-nil (OnOrLeft rightward))))
long (a ∷ (b ∷ [])) h =
    let l = cross a b in
    let along = none_on h l.y (neg_ℤ l.x) (two a b (record { x = l.y; y = neg_ℤ l.x; w = pos 0 }) (ring (env [] (l ∷ [])) (F.dot A (record { x = A.y; y = neg A.x; w = con (pos 0) })) (con (pos 0)) tt)) in
    absurd (not_rightward h (two a b rightward (omega (arith, linear, along.1, ring (env [] (l ∷ [])) (F.dot A (record { x = con (pos 1); y = con (pos 0); w = con (pos 0) })) A.x tt))))
long (a ∷ (b ∷ (c ∷ vs))) h = omega arith

-- ---- the sides of its edges on which its vertices are
record Next (vs : List Vector) (i : ℕ) : Type 0 where
  j : ℕ
  within : j < length vs
  is_edge : (s : Segment) (d : Vector) → get_or (edges vs) i s ≡ segment (get_or vs i d) (get_or vs j d)
  place : ((suc i ≡ length vs) × (j ≡ 0)) ⊎ (j ≡ suc i)

next : (vs : List Vector) (i : ℕ) → i < length vs → Next vs i
next vs i within = by (eq-or-lt_of_le more)
  where
    more : suc i ≤ length vs
    more = omega (arith, within)

    by : (suc i ≡ length vs) ⊎ (suc i < length vs) → Next vs i
    by (inl last) = record { j = 0; within = omega (arith, within); is_edge = λ s d. edge_last vs i s d last; place = inl (last, refl) }
    by (inr less) = record { j = suc i; within = less; is_edge = λ s d. edge_next vs i s d less; place = inr refl }

equal_or_not : (i j : ℕ) → (i ≡ j) ⊎ ¬ (i ≡ j)
equal_or_not i j = ⊎_elim inl (λ t. inr (λ e. ⊎_elim (λ h. omega (arith, e)) (λ h. omega (arith, e)) t)) (cases_order i j)

module _ (vs : List Vector) (convex : IsConvex vs) where
  strictly_left : (i k : ℕ) (s : Segment) (d : Vector) (i_within : i < length vs) → k < length vs → ¬ (k ≡ i) → ¬ (k ≡ (next vs i i_within).j) → pos 0 <ℤ turn (get_or (edges vs) i s).a (get_or (edges vs) i s).b (get_or vs k d)
  strictly_left i k s d hi hk not_i not_j =
      let n = next vs i hi in
      subst (λ e. pos 0 <ℤ turn e.a e.b (get_or vs k d)) (sym (n.is_edge s d)) (by n.j n.within not_j (subst (λ e. EndOrLeft e (get_or vs k d)) (n.is_edge s d) (convex.left i s (omega (arith, hi, length_edges vs)) k d hk)))
    where
      by : (j : ℕ) → j < length vs → ¬ (k ≡ j) → EndOrLeft (segment (get_or vs i d) (get_or vs j d)) (get_or vs k d) → pos 0 <ℤ turn (get_or vs i d) (get_or vs j d) (get_or vs k d)
      by j hj not_j (inl same) = absurd (apart vs convex.distinct k i d hk hi not_i same)
      by j hj not_j (inr (inl same)) = absurd (apart vs convex.distinct k j d hk hj not_j same)
      by j hj not_j (inr (inr left)) = left

  on_or_left : (i k : ℕ) (s : Segment) (d : Vector) → i < length vs → k < length vs → pos 0 ≤ℤ turn (get_or (edges vs) i s).a (get_or (edges vs) i s).b (get_or vs k d)
  on_or_left i k s d hi hk =
      let n = next vs i hi in
      ⊎_elim (λ e. at n.j (n.is_edge s d) (inl e)) (λ not_i. ⊎_elim (λ e. at n.j (n.is_edge s d) (inr e)) (λ not_j. le_of_lt (strictly_left i k s d hi hk not_i not_j)) (equal_or_not k n.j)) (equal_or_not k i)
    where
      at : (j : ℕ) → get_or (edges vs) i s ≡ segment (get_or vs i d) (get_or vs j d) → (k ≡ i) ⊎ (k ≡ j) → pos 0 ≤ℤ turn (get_or (edges vs) i s).a (get_or (edges vs) i s).b (get_or vs k d)
      at j e (inl f) = subst (λ s. pos 0 ≤ℤ turn s.a s.b (get_or vs k d)) (sym e) (subst (λ (m : ℕ). pos 0 ≤ℤ turn (get_or vs i d) (get_or vs j d) (get_or vs m d)) (sym f) (omega (arith, linear, cross_on_left (get_or vs i d) (get_or vs j d))))
      at j e (inr f) = subst (λ s. pos 0 ≤ℤ turn s.a s.b (get_or vs k d)) (sym e) (subst (λ (m : ℕ). pos 0 ≤ℤ turn (get_or vs i d) (get_or vs j d) (get_or vs m d)) (sym f) (omega (arith, linear, cross_on_right (get_or vs i d) (get_or vs j d))))

  -- of some edge it is strictly left: of the one that begins at the next vertex
  record SomeLeft (v : Vector) : Type 0 where
    i : ℕ
    edge : Segment
    within : i < length vs
    left : pos 0 <ℤ turn (get_or (edges vs) i edge).a (get_or (edges vs) i edge).b v

  some_left : 3 ≤ length vs → (k : ℕ) (d : Vector) → k < length vs → SomeLeft (get_or vs k d)
  some_left h k d hk =
      let n = next vs k hk in
      let m = next vs n.j n.within in
      record {
        i = n.j;
        edge = segment d d;
        within = n.within;
        left = strictly_left n.j k (segment d d) d n.within hk
            (λ e. ⊎_elim (λ f. omega (arith, h, e, f.0, f.1)) (λ f. omega (arith, e, f)) n.place)
            (λ e. ⊎_elim (λ f. ⊎_elim (λ g. omega (arith, h, e, f.0, f.1, g.0, g.1)) (λ g. omega (arith, h, e, f.0, f.1, g)) n.place) (λ f. ⊎_elim (λ g. omega (arith, h, e, f, g.0, g.1)) (λ g. omega (arith, h, e, f, g)) n.place) m.place);
      }

-- ---- its vertices are points
-- from p in the direction of v, where v is no point: the weights fall to 0
abbrev away : Vector → Vector → Vector
away p v = sum (scaled (neg_ℤ v.w) p) (scaled p.w v)

no_place : (l p v : Vector) → v.w ≤ℤ pos 0 → pos 0 <ℤ p.w → pos 0 ≤ℤ dot l p → pos 0 <ℤ dot l v → (away p v).x ≡ pos 0 → (away p v).y ≡ pos 0 → (away p v).w ≡ pos 0 → ⊥
no_place l p v hv hp on left ex ey ew =
    let u = away p v in
    let e : dot l u ≡ pos 0 = zero l u ex ey ew in
    let back : pos 0 ≤ℤ neg_ℤ v.w = omega (arith, linear) in
    omega (arith, linear, e, dot_combination_right (neg_ℤ v.w) p.w p v l, mul_nonneg back on, mul_pos hp left)
  where
    zero : (l u : Vector) → u.x ≡ pos 0 → u.y ≡ pos 0 → u.w ≡ pos 0 → dot l u ≡ pos 0
    zero l u ex ey ew = search zeros

pub points : (vs : List Vector) → IsFinite vs → All IsPoint vs
points vs h k d within = ⊎_elim beyond (λ n. n) (le_or_lt (get_or vs k d).w (pos 0))
  where
    beyond : (get_or vs k d).w ≤ℤ pos 0 → IsPoint (get_or vs k d)
    beyond hv =
        let v = get_or vs k d in
        let p = h.at in
        let back : pos 0 ≤ℤ neg_ℤ v.w = omega (arith, linear, hv) in
        let level : (away p v).w ≡ pos 0 = ring (p.w ∷ v.w ∷ []) (neg (var 1) ⊗ var 0 ⊕ var 0 ⊗ var 1) (con (pos 0)) tt in
        let held : Inside vs (away p v) = λ i s below.
        let e = get_or (edges vs) i s in
        omega (arith, linear, dot_combination_right (neg_ℤ v.w) p.w p v (cross e.a e.b), mul_nonneg back (h.held i s below), mul_nonneg (le_of_lt h.at_point) (on_or_left vs h.convex i k s d (omega (arith, below, length_edges vs)) within)) in
        let none = no_direction vs p (away p v) h.bounded h.at_point h.held level held in
        let some = some_left vs h.convex (long vs h) k d within in
        let e = get_or (edges vs) some.i some.edge in
        absurd (no_place (cross e.a e.b) p v hv h.at_point (h.held some.i some.edge (omega (arith, some.within, length_edges vs))) some.left none.0 none.1 level)

-- ---- the sums of a scene
finite : (t : Part) (vs : List Vector) → IsPair t → spec.IsSum t vs → IsFinite vs
finite t vs h s =
    let (p, hp, meets) = some_placement t h in
    record {
      convex = s.convex;
      bounded = λ i j. let (n, upto) = difference_bounded t h i j in (n, λ p hp inside. upto p hp ((s.meaning p hp).0 inside));
      at = p;
      at_point = hp;
      held = (s.meaning p hp).1 meets;
    }

pub sum_of : (t : Part) (vs : List Vector) → IsPair t → spec.IsSum t vs → IsSum vs
sum_of t vs h s = let f = finite t vs h s in record { points = points vs f; convex = s.convex; long = long vs f }

sums_of : (ts : List Part) (sums : List (List Vector)) → All IsPair ts → AllZip spec.IsSum ts sums → All IsSum sums
sums_of [] [] h s = All-nil IsSum
sums_of [] (vs ∷ sums) h s = absurd s
sums_of (t ∷ ts) [] h s = absurd s
sums_of (t ∷ ts) (vs ∷ sums) h s = All-cons IsSum vs sums (sum_of t vs (All-head IsPair t ts h) s.0) (sums_of ts sums (All-tail IsPair t ts h) s.1)

room_spots : (robot : List Vector) (frame room : Frame) → IsRoom robot frame room → HasSpots room
room_spots robot frame room h = subst HasSpots (sym h.is_room) (record { low = refl; high = refl })

pub floor_of : (scene : Scene) (sums : List (List Vector)) (room : Frame) → HasTriangles scene → AreSums scene sums → IsRoom scene.robot scene.frame room → IsFloor sums room
floor_of scene sums room h s r = record { are_sums = sums_of (parts scene) sums h s; spots = room_spots scene.robot scene.frame room r }

-- ---- however they are written
each_alike : (ts : List Part) (sums others : List (List Vector)) → All IsPair ts → AllZip spec.IsSum ts sums → AllZip spec.IsSum ts others → AlikeSums sums others
each_alike [] [] [] h s o = tt
each_alike [] (vs ∷ sums) others h s o = absurd s
each_alike [] [] (ws ∷ others) h s o = absurd o
each_alike (t ∷ ts) [] others h s o = absurd s
each_alike (t ∷ ts) (vs ∷ sums) [] h s o = absurd o
each_alike (t ∷ ts) (vs ∷ sums) (ws ∷ others) h s o =
    let pair = All-head IsPair t ts h in (
      polygons_alike vs ws (sum_of t vs pair s.0) (sum_of t ws pair o.0) (λ p hp inside. (o.0.meaning p hp).1 ((s.0.meaning p hp).0 inside)) (λ p hp inside. (s.0.meaning p hp).1 ((o.0.meaning p hp).0 inside)),
      each_alike ts sums others (All-tail IsPair t ts h) s.1 o.1,
    )

pub sums_alike : (scene : Scene) (sums others : List (List Vector)) → HasTriangles scene → AreSums scene sums → AreSums scene others → AlikeSums sums others
sums_alike scene sums others h s o = each_alike (parts scene) sums others h s o
