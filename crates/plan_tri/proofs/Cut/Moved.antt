-- A point of a triangle, moved a little, so that it is off a line through a corner: it stays in the triangle, and its parity in a chain that it is not on stays.
use Rattle.std.proofs.Common.{◌≡◌, pos, ◌<ℤ◌, [], ◌∷◌, arith, List, All, get_or, sym, refl}
use Rattle.plan_exact.specs.Expr.{◌⊕◌, ◌⊗◌, neg}
use Rattle.plan_exact.specs.Formal.{A, B, C, D}
use Rattle.plan_exact.specs.Formal as F
use Rattle.plan_exact.specs.Sign.{Sign, is_negative, is_zero, is_positive}
use Rattle.plan_exact.specs.Vectors.{env, opposite, dot, cross}
use Rattle.plan_exact.proofs.Certificates.{eq_from}
use Rattle.plan_exact.proofs.Laws.{linear}
use Rattle.plan_exact.proofs.Signs.{zeros, sign_of, le_of_lt, not_zero_of_pos, not_zero_of_neg}
use Rattle.plan_exact.proofs.Vectors.{dot_opposite}
use Rattle.plan_spec.specs.Chain.{IsClosed}
use Rattle.plan_spec.specs.Parity.{parity}
use Rattle.plan_spec.specs.Polygon.{Inside}
use Rattle.plan_spec.specs.Segment.{Segment, On, HasPoints}
use Rattle.plan_spec.specs.Vector.{Vector, Same, turn, IsPoint}
use Rattle.plan_plane.proofs.Segment.Apart.{From, from_near, from_both, small_step, misses_by, off_by}
use Rattle.plan_plane.proofs.Near.{step, step_point, step_between, along_zero}
use Rattle.plan_plane.proofs.Polygon.Holding.{inside_between}
use Rattle.plan_plane.proofs.Polygon.Sides.{second_inside, third_inside}
use Rattle.plan_plane.proofs.Segment.Line.{right, above, formal_right, formal_above}
use Rattle.plan_cross.proofs.ParityLaw.Closed.{parity_constant}

-- ---- a line through a corner does not have both other corners, unless e is the corner
both_on_line : (c q r e : Vector) → pos 0 <ℤ turn c q r → turn e c q ≡ pos 0 → turn e c r ≡ pos 0 → Same c e
both_on_line c q r e h hq hr =
    let xs = env [] (c ∷ q ∷ r ∷ e ∷ []) in
    let x : right c e ≡ pos 0 = eq_from xs (F.det A B C) (formal_right A C ⊗ F.det D A B ⊕ neg (formal_right A B) ⊗ F.det D A C) (formal_right A D) F.zero tt h (search zeros) in
    let y : above c e ≡ pos 0 = eq_from xs (F.det A B C) (formal_above A C ⊗ F.det D A B ⊕ neg (formal_above A B) ⊗ F.det D A C) (formal_above A D) F.zero tt h (search zeros) in
    (omega (arith, linear), omega (arith, linear))

-- ---- a covector that is not 0 at a point is not 0 near it
from_not_zero : (k z p : Vector) → ¬ (dot k z ≡ pos 0) → From (λ n. ¬ (dot k (step n z p) ≡ pos 0))
from_not_zero k z p apart = by (sign_of (dot k z))
  where
    by : Sign (dot k z) → From (λ n. ¬ (dot k (step n z p) ≡ pos 0))
    by (is_zero e) = absurd (apart e)
    by (is_positive h) =
        let f = from_near k z p h in
        record { least = f.least; positive = f.positive; on = λ n large. not_zero_of_pos (f.on n large) }
    by (is_negative h) =
        let f = from_near (opposite k) z p (omega (arith, linear, dot_opposite k z)) in
        record { least = f.least; positive = f.positive; on = λ n large. not_zero_of_neg (let i = f.on n large in omega (arith, linear, dot_opposite k (step n z p))) }

-- ---- the moved point
pub record Moved (two : List Segment) (c q r z e k : Vector) : Type 0 where
  pub to : Vector
  pub point : IsPoint to
  pub inside : Inside (c ∷ q ∷ r ∷ []) to
  pub off : All (λ s. ¬ (On s to)) two
  pub same : parity two to ≡ parity two z
  pub apart : ¬ (turn e c to ≡ pos 0)
  pub kept : ¬ (dot k to ≡ pos 0)

-- towards p, which is off the line
towards : (two : List Segment) → All HasPoints two → IsClosed two → (c q r z e k p : Vector) → IsPoint z → IsPoint p → Inside (c ∷ q ∷ r ∷ []) z → Inside (c ∷ q ∷ r ∷ []) p
    → All (λ s. ¬ (On s z)) two → turn e c z ≡ pos 0 → ¬ (turn e c p ≡ pos 0) → ¬ (dot k z ≡ pos 0) → Moved two c q r z e k
towards two points closed c q r z e k p hz hp iz ip off on_line apart not_zero =
    let b = from_both (small_step two points z p p hz off) (from_not_zero k z p not_zero) in
    let n = b.least in
    let f = b.on n (omega (arith, linear)) in
    let to = step n z p in
    let h = step_point z p n hz (le_of_lt hp) b.positive in
    record {
      to = to;
      point = h;
      inside = inside_between (c ∷ q ∷ r ∷ []) iz ip (step_between n z p (le_of_lt b.positive));
      off = λ i d within. let s = f.0 i d within in off_by s.line to (get_or two i d) h (points i d within) s.at_b s.first s.second;
      same = sym (parity_constant two z to points closed hz h (λ i d within. let s = f.0 i d within in misses_by s.line z to (get_or two i d) hz h (points i d within) s.at_a s.at_b s.first s.second));
      apart = λ zero. apart (omega (arith, linear, along_zero (cross e c) z p n on_line));
      kept = f.1;
    }

pub moved : (two : List Segment) → All HasPoints two → IsClosed two → (c q r z e k : Vector) → IsPoint z → IsPoint q → IsPoint r → pos 0 <ℤ turn c q r → Inside (c ∷ q ∷ r ∷ []) z
    → All (λ s. ¬ (On s z)) two → ¬ (Same c e) → ¬ (dot k z ≡ pos 0) → Moved two c q r z e k
moved two points closed c q r z e k hz hq hr left iz off apart not_zero = by (sign_of (turn e c z)) (sign_of (turn e c q)) (sign_of (turn e c r))
  where
    here : ¬ (turn e c z ≡ pos 0) → Moved two c q r z e k
    here h = record { to = z; point = hz; inside = iz; off = off; same = refl; apart = h; kept = not_zero }

    by : Sign (turn e c z) → Sign (turn e c q) → Sign (turn e c r) → Moved two c q r z e k
    by (is_positive h) s t = here (not_zero_of_pos h)
    by (is_negative h) s t = here (not_zero_of_neg h)
    by (is_zero o) (is_positive h) t = towards two points closed c q r z e k q hz hq iz (second_inside c q r left) off o (not_zero_of_pos h) not_zero
    by (is_zero o) (is_negative h) t = towards two points closed c q r z e k q hz hq iz (second_inside c q r left) off o (not_zero_of_neg h) not_zero
    by (is_zero o) s (is_positive h) = towards two points closed c q r z e k r hz hr iz (third_inside c q r left) off o (not_zero_of_pos h) not_zero
    by (is_zero o) s (is_negative h) = towards two points closed c q r z e k r hz hr iz (third_inside c q r left) off o (not_zero_of_neg h) not_zero
    by (is_zero o) (is_zero e1) (is_zero e2) = absurd (apart (both_on_line c q r e left e1 e2))
