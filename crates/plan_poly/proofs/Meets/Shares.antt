-- Two segments have a common point exactly where an end of one is on the other, or each has its ends strictly on the two sides of the other. Two that begin at one point have another common point exactly where the other end of one is on the other.
use Rattle.std.proofs.Common.{◌⊎◌, inl, inr, ℤ, pos, ◌≤ℤ◌, ◌<ℤ◌, arith, ◌≡◌, ◌↔◌, ◌-ℤ◌, ◌*ℤ◌, [], ◌∷◌, neg_ℤ, ◌+ℤ◌}
use Rattle.plan_exact.specs.Expr.{◌⊖◌, ◌⊗◌}
use Rattle.plan_exact.specs.Formal.{A, B, C, D}
use Rattle.plan_exact.specs.Formal as F
use Rattle.plan_exact.specs.Sign.{Sign, is_negative, is_zero, is_positive, is_less, is_equal, is_greater}
use Rattle.plan_exact.specs.Vectors.{dot, env, opposite, cross}
use Rattle.plan_exact.proofs.Laws.{linear}
use Rattle.plan_exact.proofs.Ring.{ring}
use Rattle.plan_exact.proofs.Signs.{mul_pos, mul_nonneg_nonpos, mul_of_zero, le_or_lt, le_of_lt, mul_pos_neg, sign_of, mul_neg, zero_of_mul, pos_of_mul, order_of}
use Rattle.plan_exact.proofs.Vectors.{det_turned, det_swapped, dot_opposite}
use Rattle.plan_spec.specs.Segment.{Segment, On, segment, HasPoints, Common}
use Rattle.plan_spec.specs.Vector.{Vector, Same, turn, IsPoint}
use Rattle.plan_plane.proofs.Crossing.Sides.{common_by_sides}
use Rattle.plan_plane.proofs.Segment.SameSign.{pos_same, zero_same}
use Rattle.plan_plane.proofs.Segment.Facing.{facing, facing_from, facing_to, facing_zero}
use Rattle.plan_plane.proofs.Segment.Between.{Between, between, dot_between, on, swapped, pos_at, between_second, between_first, zero_at}
use Rattle.plan_plane.proofs.Segment.Middle.{first, Middle, second, third, middle}
use Rattle.plan_plane.proofs.Segment.OneLine.{in_line}
use Rattle.plan_plane.proofs.Segment.Part.{between_part}
use Rattle.plan_plane.proofs.Segment.Reversed.{common_last}
use Rattle.plan_plane.proofs.Segment.Same.{Same-swapped, on_same}
use Rattle.plan_plane.proofs.Segment.AtEnds.{first_weight, second_weight}
use Rattle.plan_plane.proofs.Segment.Whether.{same_or_not}
use Rattle.plan_poly.specs.Edge.{FoldsBack, PartEachOther, HaveEndOnOther}

-- one is positive, the other negative
abbrev Opposed : ℤ → ℤ → Type 0
Opposed x y = ((pos 0 <ℤ x) × (y <ℤ pos 0)) ⊎ ((pos 0 <ℤ y) × (x <ℤ pos 0))

abbrev Shares : Segment → Segment → Type 0
Shares s t = PartEachOther s t ⊎ HaveEndOnOther s t

-- ---- neighbours
ahead : (m a z : Vector) → IsPoint m → IsPoint a → IsPoint z → ¬ (Same m z) → On (segment m a) z → pos 0 <ℤ dot (facing m z) a
ahead m a z hm ha hz apart o = by (le_or_lt (dot (facing m z) a) (pos 0))
  where
    b : Between m a z
    b = between m a z hm ha hz o

    by : (dot (facing m z) a ≤ℤ pos 0) ⊎ (pos 0 <ℤ dot (facing m z) a) → pos 0 <ℤ dot (facing m z) a
    by (inr h) = h
    by (inl h) =
        let b = between m a z hm ha hz o in
        let l = facing m z in
        absurd (omega (arith, linear, dot_between b l, mul_pos b.scale_positive (facing_to m z apart), mul_of_zero b.first (dot l m) (facing_from m z), mul_nonneg_nonpos b.second_nonneg h))

pub neighbours : (m a b : Vector) → IsPoint m → IsPoint a → IsPoint b → ((z : Vector) × IsPoint z × On (segment m a) z × On (segment m b) z × ¬ (Same z m)) ↔ FoldsBack m a b
neighbours m a b hm ha hb = (from, to)
  where
    to : FoldsBack m a b → (z : Vector) × IsPoint z × On (segment m a) z × On (segment m b) z × ¬ (Same z m)
    to (inl h) = (a, ha, on (between_second m a ha), h.0, h.1)
    to (inr h) = (b, hb, h.0, on (between_second m b hb), h.1)

    at : (z : Vector) → IsPoint z → On (segment m a) z → On (segment m b) z → ¬ (Same z m) → FoldsBack m a b
    at z hz oa ob n = go (middle a b m ha hb hm (omega (arith, linear, line, det_turned m a b)))
      where
        apart : ¬ (Same m z)
        apart e = n (Same-swapped m z e)

        line : turn m a b ≡ pos 0
        line = in_line z m a b n (omega (arith, linear, oa.in_line, det_turned z m a)) (omega (arith, linear, ob.in_line, det_turned z m b))

        la : pos 0 <ℤ dot (facing m z) a
        la = ahead m a z hm ha hz apart oa

        lb : pos 0 <ℤ dot (facing m z) b
        lb = ahead m b z hm hb hz apart ob

        other : (e : Vector) → IsPoint e → pos 0 <ℤ dot (facing m z) e → ¬ (Same e m)
        other e he h s = omega (arith, linear, facing_from m z, pos_same (facing m z) e m he hm s h)

        go : Middle a b m → FoldsBack m a b
        go (first k) = inl (on (swapped k), other a ha la)
        go (second k) = inr (on (swapped k), other b hb lb)
        go (third k) = absurd (omega (arith, linear, facing_from m z, pos_at hm k (facing m z) la lb))

    from : (z : Vector) × IsPoint z × On (segment m a) z × On (segment m b) z × ¬ (Same z m) → FoldsBack m a b
    from (z, hz, oa, ob, n) = at z hz oa ob n

-- ---- two segments
-- the four sides
balance : (a b c d : Vector) → d.w *ℤ turn a b c -ℤ c.w *ℤ turn a b d ≡ a.w *ℤ turn c d b -ℤ b.w *ℤ turn c d a
balance a b c d = ring (env [] (a ∷ b ∷ c ∷ d ∷ [])) (D.w ⊗ F.det A B C ⊖ C.w ⊗ F.det A B D) (A.w ⊗ F.det C D B ⊖ B.w ⊗ F.det C D A) tt

upward : (a b c d : Vector) → IsPoint a → IsPoint b → turn a b c <ℤ pos 0 → pos 0 <ℤ turn a b d → pos 0 <ℤ turn c d a → turn c d b <ℤ pos 0 → Common (segment a b) (segment c d)
upward a b c d ha hb hc hd ka kb =
    let n : pos 0 <ℤ neg_ℤ (turn c d b) = omega (arith, linear) in
    common_by_sides a b c d (omega (arith, linear)) (le_of_lt hd) (le_of_lt ka) (omega (arith, linear)) (omega (arith, linear, mul_pos n ha, mul_pos ka hb))

from_shares : (a b c d : Vector) → IsPoint a → IsPoint b → IsPoint c → IsPoint d → Shares (segment a b) (segment c d) → Common (segment a b) (segment c d)
from_shares a b c d ha hb hc hd (inr (inl (inl o))) = (c, hc, o, on (between_first c d hc))
from_shares a b c d ha hb hc hd (inr (inl (inr o))) = (d, hd, o, on (between_second c d hd))
from_shares a b c d ha hb hc hd (inr (inr (inl o))) = (a, ha, on (between_first a b ha), o)
from_shares a b c d ha hb hc hd (inr (inr (inr o))) = (b, hb, on (between_second a b hb), o)
from_shares a b c d ha hb hc hd (inl (inr (j, i), inl (k, l))) = upward a b c d ha hb i j k l
from_shares a b c d ha hb hc hd (inl (inl (i, j), inr (l, k))) =
    common_last c d (upward a b d c ha hb j i (omega (arith, linear, det_swapped d c a, k)) (omega (arith, linear, det_swapped d c b, l)))
from_shares a b c d ha hb hc hd (inl (inl (i, j), inl (k, l))) = absurd (omega (arith, linear, balance a b c d, mul_pos hd i, mul_pos_neg hc j, mul_pos_neg ha l, mul_pos hb k))
from_shares a b c d ha hb hc hd (inl (inr (j, i), inr (l, k))) = absurd (omega (arith, linear, balance a b c d, mul_pos_neg hd i, mul_pos hc j, mul_pos ha l, mul_pos_neg hb k))

-- ---- the other way: a common point that is no end of either
-- of the two ends of a segment with a point z of a line that is no end: strictly on two sides, or both on the line
sides : (l c d z : Vector) → (m : Between c d z) → dot l z ≡ pos 0 → pos 0 <ℤ m.first → pos 0 <ℤ m.second → Opposed (dot l c) (dot l d) ⊎ ((dot l c ≡ pos 0) × (dot l d ≡ pos 0))
sides l c d z m zero w1 w2 = by (sign_of (dot l c))
  where
    total : m.first *ℤ dot l c +ℤ m.second *ℤ dot l d ≡ pos 0
    total = omega (arith, linear, dot_between m l, mul_of_zero m.scale (dot l z) zero)

    by : Sign (dot l c) → Opposed (dot l c) (dot l d) ⊎ ((dot l c ≡ pos 0) × (dot l d ≡ pos 0))
    by (is_positive h) =
        let n : pos 0 <ℤ (m.second *ℤ neg_ℤ (dot l d)) = omega (arith, linear, total, mul_pos w1 h, mul_neg m.second (dot l d)) in
        let k = pos_of_mul w2 n in
        inl (inl (h, omega (arith, linear)))
    by (is_negative h) =
        let n : pos 0 <ℤ (m.second *ℤ dot l d) = omega (arith, linear, total, mul_pos_neg w1 h) in
        inl (inr (pos_of_mul w2 n, h))
    by (is_zero e) = inr (e, zero_of_mul m.second (dot l d) w2 (omega (arith, linear, total, mul_of_zero m.first (dot l c) e)))

-- all on one line: from z, which is on both, an end comes first
level : (a b c d z : Vector) → IsPoint a → IsPoint b → IsPoint c → IsPoint d → IsPoint z → ¬ (Same z a) → On (segment a b) z → Between c d z → turn a b c ≡ pos 0 → turn a b d ≡ pos 0 → turn z a c ≡ pos 0 → turn z a d ≡ pos 0 → On (segment a z) c ⊎ (On (segment a z) d ⊎ (On (segment z c) a ⊎ On (segment z d) a))
level a b c d z ha hb hc hd hz apart o m ec ed zc zd = by (le_or_lt (pos 0) (dot (facing z a) c)) (le_or_lt (pos 0) (dot (facing z a) d))
  where
    Out : Type 0
    Out = On (segment a z) c ⊎ (On (segment a z) d ⊎ (On (segment z c) a ⊎ On (segment z d) a))

    la : pos 0 <ℤ dot (facing z a) a
    la = facing_to z a apart

    same_c : (e : Vector) → IsPoint e → pos 0 ≤ℤ dot (facing z a) e → Middle a e z → On (segment a z) e ⊎ On (segment z e) a
    same_c e he h (first k) = inr (on (swapped k))
    same_c e he h (second k) = inl (on k)
    same_c e he h (third k) = at_zero (nonneg_cases (dot (facing z a) e) h)
      where
        nonneg_cases : (n : ℤ) → pos 0 ≤ℤ n → (n ≡ pos 0) ⊎ (pos 0 <ℤ n)
        nonneg_cases n h = elim (order_of (pos 0) n) [
          | is_less p ↦ inr p
          | is_equal q ↦ inl (omega (arith, linear))
          | is_greater r ↦ absurd (omega (arith, linear))
        ]

        at_zero : (dot (facing z a) e ≡ pos 0) ⊎ (pos 0 <ℤ dot (facing z a) e) → On (segment a z) e ⊎ On (segment z e) a
        at_zero (inr p) = absurd (omega (arith, linear, facing_from z a, pos_at hz k (facing z a) la p))
        at_zero (inl q) = inl (on_same a z z e ha hz hz he (facing_zero z a e apart (in_line_of e he k) q) (on (between_second a z hz)))
          where
            in_line_of : (e : Vector) → IsPoint e → Between a e z → turn z a e ≡ pos 0
            in_line_of e he k = let i = on k in omega (arith, linear, i.in_line, det_turned z a e)

    by : (pos 0 ≤ℤ dot (facing z a) c) ⊎ (dot (facing z a) c <ℤ pos 0) → (pos 0 ≤ℤ dot (facing z a) d) ⊎ (dot (facing z a) d <ℤ pos 0) → On (segment a z) c ⊎ (On (segment a z) d ⊎ (On (segment z c) a ⊎ On (segment z d) a))
    by (inl h) t = elim (same_c c hc h (middle a c z ha hc hz (omega (arith, linear, zc, det_turned z a c)))) [
      | inl p ↦ inl p
      | inr q ↦ inr (inr (inl q))
    ]
    by s (inl h) = elim (same_c d hd h (middle a d z ha hd hz (omega (arith, linear, zd, det_turned z a d)))) [
      | inl p ↦ inr (inl p)
      | inr q ↦ inr (inr (inr q))
    ]
    by (inr x) (inr y) =
        let l = opposite (facing z a) in
        let p = pos_at hz m l (omega (arith, linear, dot_opposite (facing z a) c)) (omega (arith, linear, dot_opposite (facing z a) d)) in
        absurd (omega (arith, linear, dot_opposite (facing z a) z, facing_from z a, p))

flat : (a b c d z : Vector) → IsPoint a → IsPoint b → IsPoint c → IsPoint d → IsPoint z → ¬ (Same z a) → On (segment a b) z → On (segment c d) z → turn a b c ≡ pos 0 → turn a b d ≡ pos 0 → HaveEndOnOther (segment a b) (segment c d)
flat a b c d z ha hb hc hd hz apart oab ocd ec ed = by (level a b c d z ha hb hc hd hz apart oab n ec ed (line c ec) (line d ed))
  where
    m : Between a b z
    m = between a b z ha hb hz oab

    n : Between c d z
    n = between c d z hc hd hz ocd

    two : ¬ (Same b a)
    two e =
        let l = facing a z in
        let zero = zero_at (between a b z ha hb hz oab) l (facing_from a z) (zero_same l a b ha (Same-swapped b a e) (facing_from a z)) in
        omega (arith, linear, zero, facing_to a z (λ s. apart (Same-swapped a z s)))

    line : (e : Vector) → turn a b e ≡ pos 0 → turn z a e ≡ pos 0
    line e h = omega (arith, linear, det_swapped z a e, in_line b a z e two (omega (arith, linear, det_swapped b a z, oab.in_line)) (omega (arith, linear, det_swapped b a e, h)))

    by : On (segment a z) c ⊎ (On (segment a z) d ⊎ (On (segment z c) a ⊎ On (segment z d) a)) → HaveEndOnOther (segment a b) (segment c d)
    by (inl o) = inl (inl (on (between_part (between a b z ha hb hz oab) (between a z c ha hz hc o))))
    by (inr (inl o)) = inl (inr (on (between_part (between a b z ha hb hz oab) (between a z d ha hz hd o))))
    by (inr (inr (inl o))) = inr (inl (on (between_part (between c d z hc hd hz ocd) (swapped (between z c a hz hc ha o)))))
    by (inr (inr (inr o))) = inr (inl (on (swapped (between_part (swapped (between c d z hc hd hz ocd)) (swapped (between z d a hz hd ha o))))))

exchanged : (s t : Segment) → HaveEndOnOther t s → HaveEndOnOther s t
exchanged s t (inl m) = inr m
exchanged s t (inr m) = inl m

to_shares : (a b c d : Vector) → IsPoint a → IsPoint b → IsPoint c → IsPoint d → Common (segment a b) (segment c d) → Shares (segment a b) (segment c d)
to_shares a b c d ha hb hc hd (z, hz, oab, ocd) = by (same_or_not z a) (same_or_not z b) (same_or_not z c) (same_or_not z d)
  where
    by : Same z a ⊎ ¬ (Same z a) → Same z b ⊎ ¬ (Same z b) → Same z c ⊎ ¬ (Same z c) → Same z d ⊎ ¬ (Same z d) → Shares (segment a b) (segment c d)
    by (inl e) s t r = inr (inr (inl (on_same c d z a hc hd hz ha e ocd)))
    by s (inl e) t r = inr (inr (inr (on_same c d z b hc hd hz hb e ocd)))
    by s t (inl e) r = inr (inl (inl (on_same a b z c ha hb hz hc e oab)))
    by s t r (inl e) = inr (inl (inr (on_same a b z d ha hb hz hd e oab)))
    by (inr na) (inr nb) (inr nc) (inr nd) = go (sides (cross a b) c d z n oab.in_line (first_weight n nd) (second_weight n nc)) (sides (cross c d) a b z m ocd.in_line (first_weight m nb) (second_weight m na))
      where
        m : Between a b z
        m = between a b z ha hb hz oab

        n : Between c d z
        n = between c d z hc hd hz ocd

        go : Opposed (turn a b c) (turn a b d) ⊎ ((turn a b c ≡ pos 0) × (turn a b d ≡ pos 0)) → Opposed (turn c d a) (turn c d b) ⊎ ((turn c d a ≡ pos 0) × (turn c d b ≡ pos 0)) → Shares (segment a b) (segment c d)
        go (inl p) (inl q) = inl (p, q)
        go (inr e) t = inr (flat a b c d z ha hb hc hd hz na oab ocd e.0 e.1)
        go s (inr e) = inr (exchanged (segment a b) (segment c d) (flat c d a b z hc hd ha hb hz nc ocd oab e.0 e.1))

pub common_by_ends : (s t : Segment) → HasPoints s → HasPoints t → Common s t ↔ (PartEachOther s t ⊎ HaveEndOnOther s t)
common_by_ends s t hs ht = (to_shares s.a s.b t.a t.b hs.0 hs.1 ht.0 ht.1, from_shares s.a s.b t.a t.b hs.0 hs.1 ht.0 ht.1)
