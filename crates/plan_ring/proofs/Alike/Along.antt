-- Points of a segment come in the order of points: none is before its lesser end or behind the other, and of three the one that is neither before nor behind the two others is on the segment between them.
use Rattle.std.proofs.Common.{◌≡◌, ◌⊎◌, ap, inl, inr, ⊎_elim, pos, ◌*ℤ◌, ◌<ℤ◌, [], ◌∷◌, arith}
use Rattle.plan_exact.specs.Expr.{con, ◌⊕◌, ◌⊗◌, neg}
use Rattle.plan_exact.specs.Formal as F
use Rattle.plan_exact.specs.Formal.{A, B, C, D, E}
use Rattle.plan_exact.specs.Vectors.{sum, cross, opposite, env}
use Rattle.plan_exact.proofs.Certificates.{eq_from}
use Rattle.plan_exact.proofs.Laws.{linear}
use Rattle.plan_exact.proofs.RingVectors.{ring_vectors}
use Rattle.plan_exact.proofs.Signs.{signs, zeros, zero_or_zero}
use Rattle.plan_exact.proofs.Vectors.{dot_opposite, cross_on_right}
use Rattle.plan_spec.specs.Vector.{Vector, IsPoint, LtX, SameX, Same, Before, turn}
use Rattle.plan_spec.specs.Segment.{Segment, segment, HasPoints, On}
use Rattle.plan_plane.proofs.Rising.ByPoint.{order_before, before_once, same_of}
use Rattle.plan_plane.proofs.Segment.AtEnds.{first_weight, second_weight, pos_by_first, pos_by_second}
use Rattle.plan_plane.proofs.Segment.Between.{Between, between_same, flip, on, right_of, right_of_is, swapped, zero_at}
use Rattle.plan_plane.proofs.Segment.ByX.{between_one}
use Rattle.plan_plane.proofs.Segment.Line.{right, above, formal_right, formal_above}
use Rattle.plan_plane.proofs.Segment.Middle.{Middle, first, second, third, middle}
use Rattle.plan_plane.proofs.Segment.Same.{Same-swapped, Same-trans}
use Rattle.plan_plane.proofs.Segment.SameSign.{zero_same}
use Rattle.plan_plane.proofs.Segment.Whether.{same_or_not}

-- ---- between two points
-- right of the first where the second is and has a weight
right_of_first : {p q z : Vector} (b : Between p q z) → pos 0 <ℤ b.second → LtX p q → LtX p z
right_of_first {p} {q} {z} b h less =
    let k = pos_by_second b (right_of p) h (omega (arith, linear, right_of_is p p)) (omega (arith, linear, right_of_is p q)) in
    omega (arith, linear, k, right_of_is p z)

left_of_second : {p q z : Vector} (b : Between p q z) → pos 0 <ℤ b.first → LtX p q → LtX z q
left_of_second {p} {q} {z} b h less =
    let k = pos_by_first b (opposite (right_of q)) h (omega (arith, linear, dot_opposite (right_of q) p, right_of_is q p)) (omega (arith, linear, dot_opposite (right_of q) q, right_of_is q q)) in
    omega (arith, linear, k, dot_opposite (right_of q) z, right_of_is q z)

-- with x and y in each other's place, by the same weights
abbrev flipped : {p q z : Vector} → Between p q z → Between (flip p) (flip q) (flip z)
flipped b = record {
  scale = b.scale;
  first = b.first;
  second = b.second;
  scale_positive = b.scale_positive;
  first_nonneg = b.first_nonneg;
  second_nonneg = b.second_nonneg;
  is_sum = ap flip b.is_sum;
}

level : {p q z : Vector} → Between p q z → (r : Vector) → SameX p r → SameX q r → SameX z r
level {p} {q} {z} b r h k =
    let e = zero_at b (right_of r) (omega (arith, linear, right_of_is r p)) (omega (arith, linear, right_of_is r q)) in
    omega (arith, linear, e, right_of_is r z)

pub after_first : {p q z : Vector} (b : Between p q z) → pos 0 <ℤ b.second → Before p q → Before p z
after_first b h (inl less) = inl (right_of_first b h less)
after_first {p} {q} {z} b h (inr (e, less)) =
    let l : SameX z p = level b p (omega (arith, linear)) (omega (arith, linear, e)) in
    inr (omega (arith, linear, l), right_of_first (flipped b) h less)

pub before_second : {p q z : Vector} (b : Between p q z) → pos 0 <ℤ b.first → Before p q → Before z q
before_second b h (inl less) = inl (left_of_second b h less)
before_second {p} {q} {z} b h (inr (e, less)) = inr (level b q e (omega (arith, linear)), left_of_second (flipped b) h less)

-- where the second is not before the first
pub not_before_first : {p q z : Vector} → IsPoint p → IsPoint q → IsPoint z → Between p q z → ¬ (Before q p) → ¬ (Before z p)
not_before_first {p} {q} {z} hp hq hz b off = ⊎_elim (λ e less. order_before.apart z p hz hp less e) (λ n. ⊎_elim (λ h. before_once p z (after_first b (second_weight b n) h)) (λ t. ⊎_elim (λ e. absurd (n (one e))) (λ h. absurd (off h)) t) (order_before.total p q hp hq)) (same_or_not z p)
  where
    one : Same p q → Same z p
    one e = Same-swapped p z (between_one p q z hp hq hz e.0 (on b).within_x, between_one (flip p) (flip q) (flip z) hp hq hz e.1 (on b).within_y)

pub not_behind_second : {p q z : Vector} → IsPoint p → IsPoint q → IsPoint z → Between p q z → ¬ (Before q p) → ¬ (Before q z)
not_behind_second {p} {q} {z} hp hq hz b off = ⊎_elim (λ e less. order_before.apart q z hq hz less (Same-swapped z q e)) (λ n. ⊎_elim (λ h. before_once z q (before_second b (first_weight b n) h)) (λ t. ⊎_elim (λ e. absurd (n (one e))) (λ h. absurd (off h)) t) (order_before.total p q hp hq)) (same_or_not z q)
  where
    one : Same p q → Same z q
    one e =
        let k : Same p z = (between_one p q z hp hq hz e.0 (on b).within_x, between_one (flip p) (flip q) (flip z) hp hq hz e.1 (on b).within_y) in
        Same-trans z p q hp (Same-swapped p z k) e

-- ---- three points of a segment are in line
on_point : (s : Segment) (z : Vector) → HasPoints s → IsPoint z → Same s.a s.b → On s z → Same s.a z
on_point s z hs hz e h = (between_one s.a s.b z hs.0 hs.1 hz e.0 h.within_x, between_one (flip s.a) (flip s.b) (flip z) hs.0 hs.1 hz e.1 h.within_y)

in_line : (a b x y z : Vector) → ¬ (Same a b) → turn a b x ≡ pos 0 → turn a b y ≡ pos 0 → turn a b z ≡ pos 0 → turn x y z ≡ pos 0
in_line a b x y z apart hx hy hz = by (zero_or_zero (turn x y z) (right a b) hor) (zero_or_zero (turn x y z) (above a b) ver)
  where
    hor : turn x y z *ℤ right a b ≡ pos 0
    hor = eq_from (env [] (a ∷ b ∷ x ∷ y ∷ z ∷ [])) (con (pos 1)) (formal_right D E ⊗ F.det A B C ⊕ neg (formal_right C E) ⊗ F.det A B D ⊕ formal_right C D ⊗ F.det A B E) (F.det C D E ⊗ formal_right A B) F.zero tt (search signs) (search zeros)

    ver : turn x y z *ℤ above a b ≡ pos 0
    ver = eq_from (env [] (a ∷ b ∷ x ∷ y ∷ z ∷ [])) (con (pos 1)) (formal_above D E ⊗ F.det A B C ⊕ neg (formal_above C E) ⊗ F.det A B D ⊕ formal_above C D ⊗ F.det A B E) (F.det C D E ⊗ formal_above A B) F.zero tt (search signs) (search zeros)

    by : (turn x y z ≡ pos 0) ⊎ (right a b ≡ pos 0) → (turn x y z ≡ pos 0) ⊎ (above a b ≡ pos 0) → turn x y z ≡ pos 0
    by (inl h) t = h
    by (inr h) (inl k) = k
    by (inr h) (inr k) = absurd (apart (omega (arith, linear, h), omega (arith, linear, k)))

pub all_in_line : (s : Segment) (x y z : Vector) → HasPoints s → IsPoint x → IsPoint y → IsPoint z → On s x → On s y → On s z → turn x y z ≡ pos 0
all_in_line s x y z hs hx hy hz ox oy oz =
    ⊎_elim (λ e. zero_same (cross x y) y z hy (Same-trans y s.a z hs.0 (Same-swapped s.a y (on_point s y hs hy e oy)) (on_point s z hs hz e oz)) (cross_on_right x y)) (λ n. in_line s.a s.b x y z n ox.in_line oy.in_line oz.in_line) (same_or_not s.a s.b)

-- ---- between them
pub on_between : (s : Segment) (x y z : Vector) → HasPoints s → IsPoint x → IsPoint y → IsPoint z → On s x → On s y → On s z → ¬ (Before z x) → ¬ (Before y z) → On (segment x y) z
on_between s x y z hs hx hy hz ox oy oz up down = on (by (middle x y z hx hy hz (all_in_line s x y z hs hx hy hz ox oy oz)))
  where
    by : Middle x y z → Between x y z
    by (third b) = b
    by (first b) = between_same x y z hx hz (Same-swapped z x (same_of z x hz hx up (not_before_first hz hy hx (swapped b) down)))
    by (second b) = swapped (between_same y x z hy hz (same_of y z hy hz down (not_behind_second hx hz hy b up)))

-- ---- strictly between two points there is one
pub record Strictly (x y : Vector) : Type 0 where
  pub at : Vector
  pub at_point : IsPoint at
  pub on_it : On (segment x y) at
  pub after : Before x at
  pub before : Before at y

pub strictly_between : (x y : Vector) → IsPoint x → IsPoint y → Before x y → Strictly x y
strictly_between x y hx hy less =
    let b : Between x y (sum x y) = record {
      scale = pos 1;
      first = pos 1;
      second = pos 1;
      scale_positive = search signs;
      first_nonneg = search signs;
      second_nonneg = search signs;
      is_sum = ring_vectors (env [] (x ∷ y ∷ [])) (F.scaled (con (pos 1)) (F.sum A B)) (F.sum (F.scaled (con (pos 1)) A) (F.scaled (con (pos 1)) B)) tt;
    } in
    record {
      at = sum x y;
      at_point = omega (arith, linear, hx, hy);
      on_it = on b;
      after = after_first b (search signs) less;
      before = before_second b (search signs) less;
    }
