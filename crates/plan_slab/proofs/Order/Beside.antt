-- At a point within an edge of a sum each edge has the point strictly on its left, or has there all that the first edge has: it runs along the same line in the same direction.
use Rattle.std.proofs.Common.{◌≡◌, ◌⊎◌, inl, inr, ⊎_elim, pos, ◌<ℤ◌, ◌≤ℤ◌, List, Contains, arith}
use Rattle.std.proofs.lemmas.List.Elements.{All-contains}
use Rattle.plan_exact.specs.Sign.{Sign, is_negative, is_zero, is_positive}
use Rattle.plan_exact.specs.Vectors.{cross, dot}
use Rattle.plan_exact.proofs.Laws.{linear}
use Rattle.plan_exact.proofs.Signs.{sign_of, mul_nonneg, mul_of_zero, zero_of_mul}
use Rattle.plan_exact.proofs.Vectors.{four_dot, det_swapped, det_turned}
use Rattle.plan_spec.specs.Vector.{Vector, IsPoint, Same, turn}
use Rattle.plan_spec.specs.Segment.{Segment, On}
use Rattle.plan_spec.specs.Polygon.{OnOrLeft, Inside, edges}
use Rattle.plan_plane.proofs.Boundary.Between.{edge_held}
use Rattle.plan_plane.proofs.Boundary.Sum.{EdgeOf, vertex_side, vertex_held}
use Rattle.plan_plane.proofs.Polygon.Fan.{Triangle, fan}
use Rattle.plan_plane.proofs.Segment.AtEnds.{first_weight, second_weight}
use Rattle.plan_plane.proofs.Segment.Between.{Between, between, dot_between, flip}
use Rattle.plan_plane.proofs.Segment.ByX.{between_one}
use Rattle.plan_plane.proofs.Segment.Same.{Same-swapped, Same-trans}
use Rattle.plan_plane.proofs.Segment.SameSign.{pos_same}

-- z is on the edge, and none of its ends
pub record IsWithin (s : Segment) (z : Vector) : Type 0 where
  pub on : On s z
  pub not_first : ¬ (Same z s.a)
  pub not_last : ¬ (Same z s.b)

-- what is left of s is left of t
abbrev pub Follows : Segment → Segment → Type 0
Follows s t = (w : Vector) → pos 0 <ℤ turn s.a s.b w → pos 0 <ℤ turn t.a t.b w

-- a covector that is negative at neither end, and 0 at z, is 0 at both
zero_ends : {p q z : Vector} (b : Between p q z) (l : Vector) → pos 0 <ℤ b.first → pos 0 <ℤ b.second → pos 0 ≤ℤ dot l p → pos 0 ≤ℤ dot l q → dot l z ≡ pos 0 → (dot l p ≡ pos 0) × (dot l q ≡ pos 0)
zero_ends {p} {q} {z} b l hf hs hp hq e =
    let v = dot_between b l in
    let n = mul_of_zero b.scale (dot l z) e in
    let f = mul_nonneg b.first_nonneg hp in
    let g = mul_nonneg b.second_nonneg hq in
    (zero_of_mul b.first (dot l p) hf (omega (arith, linear, v, n, f, g)), zero_of_mul b.second (dot l q) hs (omega (arith, linear, v, n, f, g)))

-- ---- edges with the same ends
-- the left side depends on the positions of the ends alone
left_same : (a b c d w : Vector) → IsPoint a → IsPoint b → IsPoint c → IsPoint d → Same a c → Same b d → pos 0 <ℤ turn a b w → pos 0 <ℤ turn c d w
left_same a b c d w ha hb hc hd h k left =
    let f : pos 0 <ℤ turn c b w = omega (arith, linear, det_turned c b w, pos_same (cross b w) a c ha hc h (omega (arith, linear, det_turned a b w))) in
    omega (arith, linear, det_turned w c d, pos_same (cross w c) b d hb hd k (omega (arith, linear, det_turned w c b)))

-- where all vertices are on one line, so is everything
flat : {vs : List Vector} {s : Segment} (z w : Vector) → EdgeOf vs s → Inside vs z → ((v : Vector) → Contains vs v → turn s.a s.b v ≡ pos 0) → turn s.a s.b w ≡ pos 0
flat {vs} {s} z w e inside all = zero_of_mul (turn t.a t.b t.c) (turn s.a s.b w) t.turns_left (omega (arith, linear, four_dot t.a t.b t.c w (cross s.a s.b), mul_of_zero (turn t.b t.c w) _ (all t.a t.a_has), mul_of_zero (turn t.a t.c w) _ (all t.b t.b_has), mul_of_zero (turn t.a t.b w) _ (all t.c t.c_has)))
  where
    t : Triangle (Contains vs) z
    t = fan vs z e.sum.convex e.sum.long inside

-- two edges of a sum do not run against each other
against : {vs : List Vector} {s t : Segment} (z : Vector) → EdgeOf vs s → EdgeOf vs t → Inside vs z → Same s.a t.b → Same s.b t.a → Follows s t
against {vs} {s} {t} z e f inside h k w left = absurd (omega (arith, linear, flat z w e inside none))
  where
    none : (v : Vector) → Contains vs v → turn s.a s.b v ≡ pos 0
    none v has = elim (sign_of (turn s.a s.b v)) [
      | is_zero e ↦ e
      | is_negative n ↦ absurd (omega (arith, linear, vertex_held v e has))
      | is_positive p ↦ absurd (omega (arith, linear, vertex_held v f has, det_swapped t.a t.b v, left_same s.a s.b t.b t.a v e.a_point e.b_point f.b_point f.a_point h k p))
    ]

pub beside : {vs : List Vector} {s t : Segment} (z : Vector) → EdgeOf vs s → EdgeOf vs t → IsPoint z → IsWithin s z → (pos 0 <ℤ turn t.a t.b z) ⊎ ((pos 0 ≤ℤ turn t.a t.b z) × Follows s t)
beside {vs} {s} {t} z e f hz within = by (sign_of (turn t.a t.b z))
  where
    b : Between s.a s.b z
    b = between s.a s.b z e.a_point e.b_point hz within.on

    inside : Inside vs z
    inside = edge_held z e hz within.on

    at_end : (v : Vector) → Contains vs v → turn t.a t.b v ≡ pos 0 → Same v t.a ⊎ Same v t.b
    at_end v has level = ⊎_elim inl (λ h. ⊎_elim inr (λ left. absurd (omega (arith, linear))) h) (vertex_side v f has)

    different : ¬ (Same s.a s.b)
    different e2 = within.not_first (Same-swapped s.a z (between_one s.a s.b z e.a_point e.b_point hz e2.0 within.on.within_x, between_one (flip s.a) (flip s.b) (flip z) e.a_point e.b_point hz e2.1 within.on.within_y))

    both : Same s.a t.a ⊎ Same s.a t.b → Same s.b t.a ⊎ Same s.b t.b → Follows s t
    both (inl h) (inr k) = λ w left. left_same s.a s.b t.a t.b w e.a_point e.b_point f.a_point f.b_point h k left
    both (inr h) (inl k) = against z e f inside h k
    both (inl h) (inl k) = absurd (different (Same-trans s.a t.a s.b f.a_point h (Same-swapped s.b t.a k)))
    both (inr h) (inr k) = absurd (different (Same-trans s.a t.b s.b f.b_point h (Same-swapped s.b t.b k)))

    by : Sign (turn t.a t.b z) → (pos 0 <ℤ turn t.a t.b z) ⊎ ((pos 0 ≤ℤ turn t.a t.b z) × Follows s t)
    by (is_positive h) = inl h
    by (is_negative h) = absurd (omega (arith, linear, All-contains (OnOrLeft z) (edges vs) t inside f.is_edge))
    by (is_zero h) =
        let ends = zero_ends b (cross t.a t.b) (first_weight b within.not_last) (second_weight b within.not_first) (vertex_held s.a f e.a_in) (vertex_held s.b f e.b_in) h in
        inr (omega (arith, linear), both (at_end s.a e.a_in ends.0) (at_end s.b e.b_in ends.1))
