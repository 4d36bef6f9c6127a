-- A vertex of a strictly convex polygon is on two edges whose lines meet there alone, so it is no combination of other points of the polygon: polygons that hold the same points have the same vertices.
use Rattle.std.proofs.Common.{◌≡◌, ◌⊎◌, inl, inr, ⊎_elim, ℕ, zero, suc, ◌-◌, ◌<◌, ◌≤◌, ℤ, pos, ◌+ℤ◌, ◌*ℤ◌, ◌≤ℤ◌, ◌<ℤ◌, List, [], ◌∷◌, length, get_or, All, Any, AllPairs, Contains, ap, subst, eq-or-lt_of_le, arith}
use Rattle.std.proofs.lemmas.Bool.{cases_order}
use Rattle.std.proofs.lemmas.List.Elements.{All-contains}
use Rattle.plan_exact.specs.Expr.{◌⊕◌, ◌⊖◌, ◌⊗◌}
use Rattle.plan_exact.specs.Formal as F
use Rattle.plan_exact.specs.Formal.{A, B, C, D}
use Rattle.plan_exact.specs.Sign.{Sign, is_negative, is_zero, is_positive}
use Rattle.plan_exact.specs.Vectors.{cross, env}
use Rattle.plan_exact.proofs.Certificates.{eq_from}
use Rattle.plan_exact.proofs.Laws.{linear}
use Rattle.plan_exact.proofs.Signs.{zeros, sign_of, mul_nonneg, mul_pos, mul_of_zero, zero_of_mul, zero_of_mul_left}
use Rattle.plan_exact.proofs.Vectors.{cross_on_left, cross_on_right}
use Rattle.plan_spec.specs.Vector.{Vector, IsPoint, Same, turn}
use Rattle.plan_spec.specs.Segment.{Segment, segment}
use Rattle.plan_spec.specs.Polygon.{OnOrLeft, Inside, EndOrLeft, edges}
use Rattle.plan_plane.proofs.Boundary.Sum.{IsSum}
use Rattle.plan_plane.proofs.Polygon.Fan.{fan}
use Rattle.plan_plane.proofs.Polygon.Holding.{vertices_inside}
use Rattle.plan_plane.proofs.Polygon.Numbered.{length_edges, edge_next, edge_last}
use Rattle.plan_plane.proofs.Polygon.Triangle.{Among, among, dot_among}
use Rattle.plan_plane.proofs.Segment.Same.{Same-swapped}

-- ---- the two edges at a vertex
pub record Corner (vs : List Vector) (v : Vector) : Type 0 where
  pub u : Vector
  pub n : Vector
  pub comes : Contains (edges vs) (segment u v)
  pub goes : Contains (edges vs) (segment v n)
  pub turns_left : pos 0 <ℤ turn u v n

pub apart : (vs : List Vector) → AllPairs (λ a b. ¬ (Same a b)) vs → (i j : ℕ) (d : Vector) → i < length vs → j < length vs → ¬ (i ≡ j) → ¬ (Same (get_or vs i d) (get_or vs j d))
apart vs h i j d hi hj differ same = ⊎_elim differ (λ t. ⊎_elim (λ l. h i j d l hj same) (λ l. h j i d l hi (Same-swapped (get_or vs i d) (get_or vs j d) same)) t) (cases_order i j)

corner_at : (vs : List Vector) → IsSum vs → (p i q : ℕ) (d : Vector) → p < length vs → i < length vs → q < length vs → ¬ (q ≡ p) → ¬ (q ≡ i)
    → ((s : Segment) → get_or (edges vs) p s ≡ segment (get_or vs p d) (get_or vs i d)) → ((s : Segment) → get_or (edges vs) i s ≡ segment (get_or vs i d) (get_or vs q d)) → Corner vs (get_or vs i d)
corner_at vs sum p i q d hp hi hq not_p not_i comes goes = record {
  u = get_or vs p d;
  n = get_or vs q d;
  comes = (p, omega (arith, hp, length_edges vs), comes (segment (get_or vs p d) (get_or vs i d)));
  goes = (i, omega (arith, hi, length_edges vs), goes (segment (get_or vs i d) (get_or vs q d)));
  turns_left = left (subst (λ s. EndOrLeft s (get_or vs q d)) (comes (segment d d)) (sum.convex.left p (segment d d) (omega (arith, hp, length_edges vs)) q d hq));
}
  where
    left : EndOrLeft (segment (get_or vs p d) (get_or vs i d)) (get_or vs q d) → pos 0 <ℤ turn (get_or vs p d) (get_or vs i d) (get_or vs q d)
    left (inl same) = absurd (apart vs sum.convex.distinct q p d hq hp not_p same)
    left (inr (inl same)) = absurd (apart vs sum.convex.distinct q i d hq hi not_i same)
    left (inr (inr h)) = h

pub corner : (vs : List Vector) → IsSum vs → All (Corner vs) vs
corner vs sum zero d within =
    let h = sum.long in
    corner_at vs sum (length vs - 1) zero 1 d (omega (arith, h)) within (omega (arith, h)) (λ e. omega (arith, h, e)) (λ e. omega (arith, e))
    (λ s. edge_last vs (length vs - 1) s d (omega (arith, h))) (λ s. edge_next vs zero s d (omega (arith, h)))
corner vs sum (suc p) d within = by (eq-or-lt_of_le more)
  where
    more : suc (suc p) ≤ length vs
    more = omega (arith, within)

    by : (suc (suc p) ≡ length vs) ⊎ (suc (suc p) < length vs) → Corner vs (get_or vs (suc p) d)
    by (inl last) =
        let h = sum.long in
        corner_at vs sum p (suc p) zero d (omega (arith, within)) within (omega (arith, within)) (λ e. omega (arith, h, e, last)) (λ e. omega (arith, e))
        (λ s. edge_next vs p s d within) (λ s. edge_last vs (suc p) s d last)
    by (inr next) =
        corner_at vs sum p (suc p) (suc (suc p)) d (omega (arith, within)) within next (λ e. omega (arith, e)) (λ e. omega (arith, e))
        (λ s. edge_next vs p s d within) (λ s. edge_next vs (suc p) s d next)

-- a point on both lines is the vertex
at_corner : (u v n z : Vector) → pos 0 <ℤ turn u v n → turn u v z ≡ pos 0 → turn v n z ≡ pos 0 → Same v z
at_corner u v n z h e f =
    let xs = env [] (u ∷ v ∷ n ∷ z ∷ []) in (
      eq_from xs (F.det A B C) (F.det B C D ⊗ (B.x ⊗ A.w ⊖ B.w ⊗ A.x) ⊕ F.det A B D ⊗ (B.x ⊗ C.w ⊖ B.w ⊗ C.x)) (B.x ⊗ D.w) (D.x ⊗ B.w) tt h (search zeros),
      eq_from xs (F.det A B C) (F.det B C D ⊗ (B.y ⊗ A.w ⊖ B.w ⊗ A.y) ⊕ F.det A B D ⊗ (B.y ⊗ C.w ⊖ B.w ⊗ C.y)) (B.y ⊗ D.w) (D.y ⊗ B.w) tt h (search zeros),
    )

-- ---- the weights of a combination
-- of numbers that are not negative and add up to 0 each is 0
record Zeros (a b c : ℤ) : Type 0 where
  first : a ≡ pos 0
  second : b ≡ pos 0
  third : c ≡ pos 0

all_zero : (a b c d : ℤ) → pos 0 ≤ℤ a → pos 0 ≤ℤ b → pos 0 ≤ℤ c → d ≡ a +ℤ b +ℤ c → d ≡ pos 0 → Zeros a b c
all_zero a b c d ha hb hc e z = record { first = omega (arith, linear); second = omega (arith, linear); third = omega (arith, linear) }

some_weight : {a b c z : Vector} (m : Among a b c z) → IsPoint z → (pos 0 <ℤ m.first) ⊎ ((pos 0 <ℤ m.second) ⊎ (pos 0 <ℤ m.third))
some_weight {a} {b} {c} {z} m hz = by (sign_of m.first) (sign_of m.second) (sign_of m.third)
  where
    by : Sign m.first → Sign m.second → Sign m.third → (pos 0 <ℤ m.first) ⊎ ((pos 0 <ℤ m.second) ⊎ (pos 0 <ℤ m.third))
    by (is_positive h) s t = inl h
    by (is_negative h) s t = absurd (omega (arith, linear, m.first_nonneg))
    by (is_zero e) (is_positive h) t = inr (inl h)
    by (is_zero e) (is_negative h) t = absurd (omega (arith, linear, m.second_nonneg))
    by (is_zero e) (is_zero f) (is_positive h) = inr (inr h)
    by (is_zero e) (is_zero f) (is_negative h) = absurd (omega (arith, linear, m.third_nonneg))
    by (is_zero e) (is_zero f) (is_zero g) = absurd (omega (arith, linear, ap (λ v. v.w) m.is_sum, mul_pos m.scale_positive hz, zero_of_mul_left m.first a.w e, zero_of_mul_left m.second b.w f, zero_of_mul_left m.third c.w g))

-- ---- the points of the one are points of the other
abbrev pub HoldAlike : List Vector → List Vector → Type 0
HoldAlike vs ws = (p : Vector) → IsPoint p → Inside vs p → Inside ws p

-- a vertex of the one is a vertex of the other
module _ (vs ws : List Vector) (sum : IsSum vs) (other : IsSum ws) (into : HoldAlike vs ws) (back : HoldAlike ws vs) where
  held : (v : Vector) → Contains ws v → Inside vs v
  held v has = back v (All-contains IsPoint ws v other.points has) (All-contains (Inside ws) ws v (vertices_inside ws other.convex.left other.points) has)

  left_of : (s : Segment) (v : Vector) → Contains (edges vs) s → Contains ws v → pos 0 ≤ℤ turn s.a s.b v
  left_of s v edge has = All-contains (OnOrLeft v) (edges vs) s (held v has) edge

  level : {a b c v : Vector} (m : Among a b c v) (s : Segment) → Contains (edges vs) s → Contains ws a → Contains ws b → Contains ws c → turn s.a s.b v ≡ pos 0 → Zeros (m.first *ℤ turn s.a s.b a) (m.second *ℤ turn s.a s.b b) (m.third *ℤ turn s.a s.b c)
  level {a} {b} {c} {v} m s edge ha hb hc e =
      all_zero (m.first *ℤ turn s.a s.b a) (m.second *ℤ turn s.a s.b b) (m.third *ℤ turn s.a s.b c) (m.scale *ℤ turn s.a s.b v)
      (mul_nonneg m.first_nonneg (left_of s a edge ha)) (mul_nonneg m.second_nonneg (left_of s b edge hb)) (mul_nonneg m.third_nonneg (left_of s c edge hc))
      (dot_among m (cross s.a s.b)) (mul_of_zero m.scale (turn s.a s.b v) e)

  found : (v w : Vector) → Contains ws w → Same v w → Any (Same v) ws
  found v w (k, within, is) same = (k, w, within, is, same)

  one : (v : Vector) → IsPoint v → Inside ws v → Corner vs v → Any (Same v) ws
  one v hv inside c =
      let t = fan ws v other.convex other.long inside in
      let m = among t.a t.b t.c v t.turns_left t.inside in
      let x = level m (segment c.u v) c.comes t.a_has t.b_has t.c_has (cross_on_right c.u v) in
      let y = level m (segment v c.n) c.goes t.a_has t.b_has t.c_has (cross_on_left v c.n) in
      ⊎_elim (λ h. found v t.a t.a_has (at_corner c.u v c.n t.a c.turns_left (zero_of_mul m.first _ h x.first) (zero_of_mul m.first _ h y.first)))
      (λ r. ⊎_elim (λ h. found v t.b t.b_has (at_corner c.u v c.n t.b c.turns_left (zero_of_mul m.second _ h x.second) (zero_of_mul m.second _ h y.second)))
      (λ h. found v t.c t.c_has (at_corner c.u v c.n t.c c.turns_left (zero_of_mul m.third _ h x.third) (zero_of_mul m.third _ h y.third))) r)
      (some_weight m hv)

  pub vertices_alike : All (λ v. Any (Same v) ws) vs
  vertices_alike k d within =
      let hv = sum.points k d within in
      one (get_or vs k d) hv (into (get_or vs k d) hv (vertices_inside vs sum.convex.left sum.points k d within)) (corner vs sum k d within)
