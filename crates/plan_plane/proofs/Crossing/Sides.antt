-- Two segments without a common point: over the common stretch of their x, one is below the other throughout. It is said at the ends of the stretch, each of which is an end of one of the two, by the side of the other on which it lies.
use Rattle.std.proofs.Common.{◌≡◌, ◌⊎◌, inl, inr, ℤ, pos, ◌*ℤ◌, neg_ℤ, ◌≤ℤ◌, ◌<ℤ◌, [], ◌∷◌, subst, arith}
use Rattle.plan_exact.specs.Sign.{Sign, is_negative, is_zero, is_positive}
use Rattle.plan_exact.specs.Expr.{con, ◌⊕◌, ◌⊗◌, neg}
use Rattle.plan_exact.specs.Vectors.{sum, scaled, env}
use Rattle.plan_exact.specs.Formal as F
use Rattle.plan_exact.specs.Formal.{A, B, C, D}
use Rattle.plan_exact.proofs.Laws.{linear}
use Rattle.plan_exact.proofs.RingVectors.{ring_vectors}
use Rattle.plan_exact.proofs.Certificates.{le_from, lt_from}
use Rattle.plan_exact.proofs.Signs.{pos_of_pos_mul, signs, sign_of, pos_of_mul, neg_nonneg, le_of_lt}
use Rattle.plan_exact.proofs.Vectors.{det_swapped}
use Rattle.plan_spec.specs.Vector.{Vector, IsPoint, LeX, LtX, turn}
use Rattle.plan_spec.specs.Segment.{On, segment, Common}
use Rattle.plan_plane.proofs.Segment.Combination.{on_combination}
use Rattle.plan_plane.proofs.Segment.Reversed.{common_first, common_last}
use Rattle.plan_plane.proofs.Segment.Line.{right, formal_right}
use Rattle.plan_plane.proofs.Segment.Between.{on, between_x, between_first, between_second}

-- ---- the common point, by formula
pub two_ways : (a b p q : Vector) → sum (scaled (turn a b q) p) (scaled (neg_ℤ (turn a b p)) q) ≡ sum (scaled (neg_ℤ (turn p q b)) a) (scaled (turn p q a) b)
two_ways a b p q = ring_vectors (env [] (a ∷ b ∷ p ∷ q ∷ [])) (F.sum (F.scaled (F.det A B D) C) (F.scaled (neg (F.det A B C)) D)) (F.sum (F.scaled (neg (F.det C D B)) A) (F.scaled (F.det C D A) B)) tt

-- where p and q are on the two sides of the line a b, or on it, and a and b on the two sides of the line p q, or on it, the lines cross on both segments
pub common_by_sides : (a b p q : Vector) → turn a b p ≤ℤ pos 0 → pos 0 ≤ℤ turn a b q → pos 0 ≤ℤ turn p q a → turn p q b ≤ℤ pos 0 → IsPoint (sum (scaled (neg_ℤ (turn p q b)) a) (scaled (turn p q a) b)) → Common (segment a b) (segment p q)
common_by_sides a b p q h1 h2 h3 h4 w =
    let on_first = on_combination (neg_ℤ (turn p q b)) (turn p q a) a b (neg_nonneg h4) h3 in
    let on_second = on_combination (turn a b q) (neg_ℤ (turn a b p)) p q h2 (neg_nonneg h1) in
    (sum (scaled (neg_ℤ (turn p q b)) a) (scaled (turn p q a) b), w, on_first, subst (On (segment p q)) (two_ways a b p q) on_second)

-- u and v in the range of c d, on its two sides
common_across : (c d u v : Vector) → IsPoint u → IsPoint v → LtX c d → LeX c u → LeX u d → LeX c v → LeX v d → pos 0 <ℤ turn c d u → turn c d v <ℤ pos 0 → Common (segment u v) (segment c d)
common_across c d u v hu hv run cu ud cv vd hi lo =
    let r : pos 0 <ℤ right c d = search signs in
    let h1 : turn u v c ≤ℤ pos 0 = le_from (env [] (c ∷ d ∷ u ∷ v ∷ [])) (formal_right A B) (F.det A B C ⊗ formal_right A D ⊕ neg (F.det A B D) ⊗ formal_right A C) (F.det C D A) F.zero tt r (search signs) in
    let h2 : pos 0 ≤ℤ turn u v d = le_from (env [] (c ∷ d ∷ u ∷ v ∷ [])) (formal_right A B) (F.det A B C ⊗ formal_right D B ⊕ neg (F.det A B D) ⊗ formal_right C B) F.zero (F.det C D B) tt r (search signs) in
    common_by_sides u v c d h1 h2 (le_of_lt hi) (le_of_lt lo) (search signs)

-- p in the range of a b, and b in that of p q: p is below a b, and b below p q
common_below : (a b p q : Vector) → IsPoint a → IsPoint b → LtX a b → LtX p q → LeX a p → LeX p b → LeX b q → turn a b p <ℤ pos 0 → turn p q b <ℤ pos 0 → Common (segment a b) (segment p q)
common_below a b p q ha hb ab pq ap pb bq h k =
    let xs = env [] (a ∷ b ∷ p ∷ q ∷ []) in
    let m : pos 0 <ℤ (right p b *ℤ turn a b q) = lt_from xs (con (pos 1)) (neg (F.det A B C) ⊗ formal_right B D ⊕ neg (F.det C D B) ⊗ formal_right A B) F.zero (formal_right C B ⊗ F.det A B D) tt (search signs) (search signs) in
    let n : pos 0 ≤ℤ right p b = search signs in
    let r = pos_of_pos_mul _ _ n m in
    let s : pos 0 <ℤ turn p q a = lt_from xs (formal_right C B) (neg (F.det A B C) ⊗ formal_right C D ⊕ neg (F.det C D B) ⊗ formal_right A C) F.zero (F.det C D A) tt r (search signs) in
    let t = pos_of_mul r m in
    common_by_sides a b p q (le_of_lt h) (le_of_lt t) (le_of_lt s) (le_of_lt k) (search signs)

-- p is above a b, and b above p q
common_above : (a b p q : Vector) → IsPoint a → IsPoint b → LtX a b → LtX p q → LeX a p → LeX p b → LeX b q → pos 0 <ℤ turn a b p → pos 0 <ℤ turn p q b → Common (segment a b) (segment q p)
common_above a b p q ha hb ab pq ap pb bq h k =
    let xs = env [] (a ∷ b ∷ p ∷ q ∷ []) in
    let m : pos 0 <ℤ (right p b *ℤ turn b a q) = lt_from xs (con (pos 1)) (F.det A B C ⊗ formal_right B D ⊕ F.det C D B ⊗ formal_right A B) F.zero (formal_right C B ⊗ F.det B A D) tt (search signs) (search signs) in
    let n : pos 0 ≤ℤ right p b = search signs in
    let r = pos_of_pos_mul _ _ n m in
    let s : pos 0 <ℤ turn q p a = lt_from xs (formal_right C B) (F.det A B C ⊗ formal_right C D ⊕ F.det C D B ⊗ formal_right A C) F.zero (F.det D C A) tt r (search signs) in
    let t = pos_of_mul r m in
    let left : turn a b q ≤ℤ pos 0 = omega (arith, linear, det_swapped a b q) in
    let lower : turn q p b ≤ℤ pos 0 = omega (arith, linear, det_swapped p q b) in
    common_by_sides a b q p left (le_of_lt h) (le_of_lt s) lower (search signs)

-- ---- by ends: two segments without a common point
-- two integers have one sign, and neither is 0
abbrev pub Agree : ℤ → ℤ → Type 0
Agree x y = ((pos 0 <ℤ x) × (pos 0 <ℤ y)) ⊎ ((x <ℤ pos 0) × (y <ℤ pos 0))

-- two ends of one segment, in the range of the other: both above it, or both below
pub same_side : (c d u v : Vector) → IsPoint u → IsPoint v → LtX c d → LeX c u → LeX u d → LeX c v → LeX v d → ¬ (Common (segment u v) (segment c d)) → Agree (turn c d u) (turn c d v)
same_side c d u v hu hv run cu ud cv vd apart = by (sign_of (turn c d u)) (sign_of (turn c d v))
  where
    by : Sign (turn c d u) → Sign (turn c d v) → Agree (turn c d u) (turn c d v)
    by (is_positive h) (is_positive k) = inl (h, k)
    by (is_negative h) (is_negative k) = inr (h, k)
    by (is_zero e) s = absurd (apart (u, hu, on (between_first u v hu), on (between_x c d u run cu ud e)))
    by (is_positive h) (is_zero e) = absurd (apart (v, hv, on (between_second u v hv), on (between_x c d v run cv vd e)))
    by (is_negative h) (is_zero e) = absurd (apart (v, hv, on (between_second u v hv), on (between_x c d v run cv vd e)))
    by (is_positive h) (is_negative k) = absurd (apart (common_across c d u v hu hv run cu ud cv vd h k))
    by (is_negative h) (is_positive k) =
        absurd (apart (common_first u v (common_across c d v u hv hu run cv vd cu ud k h)))

-- one end of each, in the range of the other: p below a b and b above p q, or the other way round
pub overlap_side : (a b p q : Vector) → IsPoint a → IsPoint b → IsPoint p → LtX a b → LtX p q → LeX a p → LeX p b → LeX b q → ¬ (Common (segment a b) (segment p q)) → Agree (turn b a p) (turn p q b)
overlap_side a b p q ha hb hp ab pq ap pb bq apart = by (sign_of (turn a b p)) (sign_of (turn p q b))
  where
    by : Sign (turn a b p) → Sign (turn p q b) → Agree (turn b a p) (turn p q b)
    by (is_negative h) (is_positive k) = inl (omega (arith, linear, det_swapped a b p), k)
    by (is_positive h) (is_negative k) = inr (omega (arith, linear, det_swapped a b p), k)
    by (is_zero e) s = absurd (apart (p, hp, on (between_x a b p ab ap pb e), on (between_first p q hp)))
    by (is_negative h) (is_zero e) = absurd (apart (b, hb, on (between_second a b hb), on (between_x p q b pq pb bq e)))
    by (is_positive h) (is_zero e) = absurd (apart (b, hb, on (between_second a b hb), on (between_x p q b pq pb bq e)))
    by (is_negative h) (is_negative k) = absurd (apart (common_below a b p q ha hb ab pq ap pb bq h k))
    by (is_positive h) (is_positive k) = absurd (apart (common_last p q (common_above a b p q ha hb ab pq ap pb bq h k)))
