-- A segment meets a convex polygon exactly where no edge has both ends strictly right of it and the segment's line does not have all vertices strictly on one side.
use Rattle.std.proofs.Common.{◌≡◌, ◌⊎◌, inl, inr, ℤ, pos, neg_ℤ, ◌≤◌, ◌≤ℤ◌, ◌<ℤ◌, List, [], ◌∷◌, length, get_or, All, Any, Contains, Bool, true, false, not, ◌&&◌, Decides, suc, ⊎_elim, refl, arith}
use Rattle.std.proofs.lemmas.List.Elements.{All-contains, All-nil, All-cons, Contains-get_or}
use Rattle.plan_exact.specs.Expr.{con, neg}
use Rattle.plan_exact.specs.Sign.{Order, is_less, is_equal, is_greater}
use Rattle.plan_exact.specs.Vectors.{sum, scaled, opposite, dot, cross, env}
use Rattle.plan_exact.specs.Formal as F
use Rattle.plan_exact.specs.Formal.{A, B, C, D}
use Rattle.plan_exact.proofs.Laws.{linear}
use Rattle.plan_exact.proofs.Ring.{ring}
use Rattle.plan_exact.proofs.RingVectors.{ring_vectors}
use Rattle.plan_exact.proofs.Signs.{mul_nonneg, mul_pos, le_or_lt, order_of, add_nonneg_pos, neg_pos, le_of_lt}
use Rattle.plan_exact.proofs.Vectors.{dot_opposite}
use Rattle.plan_spec.specs.Vector.{Vector, IsPoint, turn}
use Rattle.plan_spec.specs.Segment.{segment, AnyOn}
use Rattle.plan_spec.specs.Polygon.{OnOrLeft, AreRight, Inside, IsConvex, edges}
use Rattle.plan_plane.proofs.Segment.Between.{Between, nonneg_at, neg_at, between_first, between_second, between, on}
use Rattle.plan_plane.proofs.Segment.Middle.{Middle, first, second, third, middle}
use Rattle.plan_plane.proofs.Polygon.Holding.{IsLeftOfEdges, vertices_inside, inside_between}
use Rattle.plan_plane.proofs.Polygon.Fan as N

-- a rational point of the segment from p to q that the polygon holds
abbrev pub MeetsSegment : List Vector → Vector → Vector → Type 0
MeetsSegment vs p q = AnyOn (Inside vs) (segment p q)

-- a point of the line that the polygon holds, from two held points that are not strictly on one side of it
held_on_line : (vs : List Vector) (p q u v : Vector) → IsPoint u → IsPoint v → Inside vs u → Inside vs v → turn p q u ≤ℤ pos 0 → pos 0 ≤ℤ turn p q v → (y : Vector) × IsPoint y × (turn p q y ≡ pos 0) × Inside vs y
held_on_line vs p q u v hu hv iu iv right left = by (order_of (turn p q u) (pos 0))
  where
    y : Vector
    y = sum (scaled (turn p q v) u) (scaled (neg_ℤ (turn p q u)) v)

    xs : List ℤ
    xs = env [] (p ∷ q ∷ u ∷ v ∷ [])

    formal : F.Vec
    formal = F.sum (F.scaled (F.det A B D) C) (F.scaled (neg (F.det A B C)) D)

    by : Order (turn p q u) (pos 0) → (y : Vector) × IsPoint y × (turn p q y ≡ pos 0) × Inside vs y
    by (is_equal e) = (u, hu, e, iu)
    by (is_greater h) = absurd (omega (arith, linear))
    by (is_less h) =
        let b : Between u v y = record {
          scale = pos 1;
          first = turn p q v;
          second = neg_ℤ (turn p q u);
          scale_positive = omega (arith, linear);
          first_nonneg = left;
          second_nonneg = omega (arith, linear);
          is_sum = ring_vectors xs (F.scaled (con (pos 1)) formal) formal tt;
        } in
        (y, add_nonneg_pos (mul_nonneg left (le_of_lt hu)) (mul_pos (neg_pos h) hv), ring xs (F.det A B formal) F.zero tt, inside_between vs iu iv b)

-- ---- the segment meets the polygon
-- q between p and a held point, on an edge's line or left of it as soon as p and q are not both right
reached : {p q y : Vector} (l : Vector) → Between p y q → ¬ ((dot l p <ℤ pos 0) × (dot l q <ℤ pos 0)) → pos 0 ≤ℤ dot l y → pos 0 ≤ℤ dot l q
reached {p} {q} {y} l b apart hy = by (le_or_lt (pos 0) (dot l p)) (le_or_lt (pos 0) (dot l q))
  where
    by : (pos 0 ≤ℤ dot l p) ⊎ (dot l p <ℤ pos 0) → (pos 0 ≤ℤ dot l q) ⊎ (dot l q <ℤ pos 0) → pos 0 ≤ℤ dot l q
    by t (inl hq) = hq
    by (inl hp) (inr nq) = nonneg_at b l hp hy
    by (inr np) (inr nq) = absurd (apart (np, nq))

pub meeting : (vs : List Vector) (p q : Vector) → IsLeftOfEdges vs → All IsPoint vs → IsPoint p → IsPoint q
    → All (λ s. ¬ (AreRight p q s)) (edges vs) → Any (λ v. turn p q v ≤ℤ pos 0) vs → Any (λ v. pos 0 ≤ℤ turn p q v) vs → MeetsSegment vs p q
meeting vs p q left points hp hq apart (i, u, iu, eu, ru) (j, v, iv, ev, lv) = at (held_on_line vs p q u v (pt u ku) (pt v kv) (held u ku) (held v kv) ru lv)
  where
    ku : Contains vs u
    ku = (i, iu, eu)

    kv : Contains vs v
    kv = (j, iv, ev)

    pt : (v : Vector) → Contains vs v → IsPoint v
    pt v = All-contains IsPoint vs v points

    held : (v : Vector) → Contains vs v → Inside vs v
    held v = All-contains (Inside vs) vs v (vertices_inside vs left points)

    at : (y : Vector) × IsPoint y × (turn p q y ≡ pos 0) × Inside vs y → MeetsSegment vs p q
    at (y, hy, e, iy) = by (middle p q y hp hq hy e)
      where
        by : Middle p q y → MeetsSegment vs p q
        by (third b) = (y, hy, on b, iy)
        by (second b) = (q, hq, on (between_second p q hq), λ k d within. let s = get_or (edges vs) k d in reached (cross s.a s.b) b (apart k d within) (iy k d within))
        by (first b) = (p, hp, on (between_first p q hp), λ k d within. let s = get_or (edges vs) k d in reached (cross s.a s.b) b (λ h. apart k d within (h.1, h.0)) (iy k d within))

-- ---- and it does not
pub no_meeting_right_of_edge : (vs : List Vector) (p q : Vector) → Any (AreRight p q) (edges vs) → IsPoint p → IsPoint q → ¬ (MeetsSegment vs p q)
no_meeting_right_of_edge vs p q (k, s, within, e, (hp', hq')) hp hq (z, hz, oz, iz) =
    let at : OnOrLeft z s = All-contains (OnOrLeft z) (edges vs) s iz (k, within, e) in
    omega (arith, linear, neg_at hz (between p q z hp hq hz oz) (cross s.a s.b) hp' hq')

pub no_meeting_left_of_line : (vs : List Vector) (p q : Vector) → IsConvex vs → 3 ≤ length vs → All (λ v. pos 0 <ℤ turn p q v) vs → ¬ (MeetsSegment vs p q)
no_meeting_left_of_line vs p q convex long left (z, hz, oz, iz) = omega (arith, linear, oz.in_line, N.pos_at vs z convex long hz iz (cross p q) left)

pub no_meeting_right_of_line : (vs : List Vector) (p q : Vector) → IsConvex vs → 3 ≤ length vs → All (λ v. turn p q v <ℤ pos 0) vs → ¬ (MeetsSegment vs p q)
no_meeting_right_of_line vs p q convex long right (z, hz, oz, iz) =
    omega (arith, linear, oz.in_line, dot_opposite (cross p q) z, N.pos_at vs z convex long hz iz (opposite (cross p q)) (λ k d within. let v = get_or vs k d in omega (arith, linear, dot_opposite (cross p q) v, right k d within)))

-- ---- exactly where
-- what not all have, one lacks
some_without : (P Q : Vector → Type 0) → ((v : Vector) → P v ⊎ Q v) → (vs : List Vector) → ¬ (All P vs) → Any Q vs
some_without P Q decide [] none = absurd (none (All-nil P))
some_without P Q decide (v ∷ vs) none =
    elim (decide v) [
      | inr q ↦ (0, v, omega arith, refl, q)
      | inl p ↦ let r = some_without P Q decide vs (λ h. none (All-cons P v vs p h)) in (suc r.0, r.1, omega arith, r.3, r.4)
    ]

pub meeting_unless : (vs : List Vector) (p q : Vector) → IsLeftOfEdges vs → All IsPoint vs → IsPoint p → IsPoint q
    → ¬ (Any (AreRight p q) (edges vs)) → ¬ (All (λ v. pos 0 <ℤ turn p q v) vs) → ¬ (All (λ v. turn p q v <ℤ pos 0) vs) → MeetsSegment vs p q
meeting_unless vs p q left points hp hq beyond all_left all_right =
    meeting vs p q left points hp hq
    (λ k d within h. let at = Contains-get_or (edges vs) k d within in beyond (at.0, get_or (edges vs) k d, at.1, at.2, h))
    (some_without (λ v. pos 0 <ℤ turn p q v) (λ v. turn p q v ≤ℤ pos 0) (λ v. lt_or_le (pos 0) (turn p q v)) vs all_left)
    (some_without (λ v. turn p q v <ℤ pos 0) (λ v. pos 0 ≤ℤ turn p q v) (λ v. lt_or_le (turn p q v) (pos 0)) vs all_right)
  where
    lt_or_le : (a b : ℤ) → (a <ℤ b) ⊎ (b ≤ℤ a)
    lt_or_le a b = ⊎_elim inr inl (le_or_lt b a)

-- three tests, however they are found, decide it together
pub meets_segment_decides : (vs : List Vector) (p q : Vector) → IsConvex vs → 3 ≤ length vs → All IsPoint vs → IsPoint p → IsPoint q
    → (beyond left right : Bool) → Decides beyond (Any (AreRight p q) (edges vs)) → Decides left (All (λ v. pos 0 <ℤ turn p q v) vs) → Decides right (All (λ v. turn p q v <ℤ pos 0) vs)
    → Decides (not beyond && (not left && not right)) (MeetsSegment vs p q)
meets_segment_decides vs p q convex long points hp hq true left right b l r = (λ e. absurd (cc), λ m. absurd (no_meeting_right_of_edge vs p q (b.0 refl) hp hq m))
meets_segment_decides vs p q convex long points hp hq false true right b l r = (λ e. absurd (cc), λ m. absurd (no_meeting_left_of_line vs p q convex long (l.0 refl) m))
meets_segment_decides vs p q convex long points hp hq false false true b l r = (λ e. absurd (cc), λ m. absurd (no_meeting_right_of_line vs p q convex long (r.0 refl) m))
meets_segment_decides vs p q convex long points hp hq false false false b l r =
    (λ e. meeting_unless vs p q convex.left points hp hq (λ h. let e = b.1 h in absurd (cc)) (λ h. let e = l.1 h in absurd (cc)) (λ h. let e = r.1 h in absurd (cc)), λ m. refl)
