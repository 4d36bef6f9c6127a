-- The sides of cells along spans, from mark to mark: which of them stand over a point, in the point's slab and in others.
use Rattle.std.proofs.Common.{◌≡◌, ◌⊎◌, inl, inr, ℕ, zero, suc, ◌+◌, ◌*ℤ◌, pos, ◌≤ℤ◌, ◌<ℤ◌, ◌≤◌, ◌<◌, Bool, true, false, int_lt, List, [], ◌∷◌, length, if◌then◌else◌, ltb, refl, sym, ap₂, ◌∙◌, arith}
use Rattle.std.proofs.lemmas.Bool.{lt-ltb, le-ltb, cases_lt}
use Rattle.plan_exact.proofs.Laws.{linear}
use Rattle.plan_exact.proofs.Signs.{le_of_lt, le_or_lt}
use Rattle.plan_exact.proofs.Tests.{lt_true, lt_false}
use Rattle.plan_spec.specs.Vector.{Vector, IsPoint, SameX, LeX, LtX, turn}
use Rattle.plan_spec.specs.Segment.{segment}
use Rattle.plan_spec.specs.Parity.{over, parity, xor}
use Rattle.plan_spec.specs.Frame.{Frame}
use Rattle.plan_spec.specs.Slabs.{Slabs, line_at, spans_of, span_at, marks_of, mark_at}
use Rattle.plan_spec.specs.Regions.{Lot}
use Rattle.plan_plane.proofs.Rising.ByCoordinate.{order_x}
use Rattle.plan_plane.proofs.Segment.ByX.{leX_trans, ltX_leX}
use Rattle.plan_cross.proofs.ParityLaw.Tests.{over_right_of_a, over_past_both, over_before_both}
use Rattle.plan_cross.proofs.ParityLaw.Xor.{xor_false}
use Rattle.plan_poly.proofs.EvenOdd.Chains.{parity_append}
use Rattle.plan_slab.specs.Decomposition.{IsDecomposition}
use Rattle.plan_spec.specs.Rings.{has_wall, side, part, closed_parts}
use Rattle.plan_slab.proofs.NextTo.{climb}
use Rattle.plan_ring.proofs.LowerSides.{lower_over, below_alike, above_alike}
use Rattle.plan_map.proofs.Path.Places.{meets_at, lines_le, marks_le, one_x, met, met_point, on_span, meets_rise}

-- z is between two lines, or on the left one
pub record IsInSlab (σ : Slabs) (k : ℕ) (z : Vector) : Type 0 where
  pub point : IsPoint z
  pub is_slab : suc k < length σ.lines
  pub after : LeX (line_at σ k) z
  pub before : LtX z (line_at σ (suc k))

-- not strictly below span i, and strictly below span i + 1
pub record IsBetween (σ : Slabs) (k i : ℕ) (z : Vector) : Type 0 where
  pub is_cell : suc i < length (spans_of σ k)
  pub above : pos 0 ≤ℤ turn (span_at σ k i).a (span_at σ k i).b z
  pub below : turn (span_at σ k (suc i)).a (span_at σ k (suc i)).b z <ℤ pos 0

-- an upright segment stands over nothing
upright : (a b z : Vector) → IsPoint a → IsPoint b → IsPoint z → SameX a b → over (segment a b) z ≡ false
upright a b z ha hb hz e = by (le_or_lt (a.x *ℤ z.w) (z.x *ℤ a.w))
  where
    by : LeX a z ⊎ LtX z a → over (segment a b) z ≡ false
    by (inl h) = let ba : LeX b a = omega (arith, linear) in over_past_both a b z h (leX_trans b a z hb ha hz ba h)
    by (inr h) = let ab : LeX a b = omega (arith, linear) in over_before_both a b z h (ltX_leX z a b hz ha hb h ab)

module _ {sums : List (List Vector)} {room : Frame} {σ : Slabs} {found : List Lot} (d : IsDecomposition sums room σ found) where
  pub closed_even : (z : Vector) → IsPoint z → (h a n : ℕ) → h < length σ.lines → a + n < length (marks_of σ h) → parity (closed_parts σ found h a n) z ≡ false
  closed_even z hz h a zero hh within = refl
  closed_even z hz h a (suc n) hh within =
      parity_append (closed_parts σ found h a n) _ z ∙ ap₂ xor (closed_even z hz h a n hh (omega arith)) (by (has_wall found h (a + n)))
    where
      none : over (part σ h (a + n)) z ≡ false
      none =
          let one : a + n < length (marks_of σ h) = omega arith in
          let two : suc (a + n) < length (marks_of σ h) = omega arith in
          upright (mark_at σ h (a + n)) (mark_at σ h (suc (a + n))) z (d.placed.mark_points h (a + n) hh one) (d.placed.mark_points h (suc (a + n)) hh two) hz (one_x d.placed h (a + n) (suc (a + n)) hh one two)

      by : (f : Bool) → parity (if f then [] else part σ h (a + n) ∷ []) z ≡ false
      by true = refl
      by false = xor_false (over (part σ h (a + n)) z) ∙ none

  -- ---- the ends of a side
  module _ (k i : ℕ) (hk : suc k < length σ.lines) (hi : i < length (spans_of σ k)) where
    pub first_point : IsPoint (side σ k i).a
    first_point = met_point d.placed k k i hk (inl refl) hi

    pub last_point : IsPoint (side σ k i).b
    last_point = met_point d.placed k (suc k) i hk (inr refl) hi

    pub first_level : SameX (side σ k i).a (line_at σ k)
    first_level = d.placed.on_line k (meets_at σ k k i) (omega (arith, hk)) (met d.placed k k i hk (inl refl) hi)

    pub last_level : SameX (side σ k i).b (line_at σ (suc k))
    last_level = d.placed.on_line (suc k) (meets_at σ k (suc k) i) hk (met d.placed k (suc k) i hk (inr refl) hi)

    pub side_runs : LtX (side σ k i).a (side σ k i).b
    side_runs =
        let pl = d.placed.line_points k (omega arith) in
        let pr = d.placed.line_points (suc k) hk in
        order_x.less_equal (side σ k i).a (line_at σ (suc k)) (side σ k i).b first_point pr last_point (order_x.equal_less (side σ k i).a (line_at σ k) (line_at σ (suc k)) first_point pl pr first_level (d.placed.lines_rise k (suc k) (omega arith) hk)) (sym last_level)

    pub span_below_side : (z : Vector) → turn (span_at σ k i).a (span_at σ k i).b z <ℤ pos 0 → turn (side σ k i).a (side σ k i).b z <ℤ pos 0
    span_below_side z = below_alike (span_at σ k i).a (span_at σ k i).b (side σ k i).a (side σ k i).b z (d.placed.rightward k i hk hi) side_runs (on_span d.placed k k i hk (inl refl) hi) (on_span d.placed k (suc k) i hk (inr refl) hi)

    pub span_above_side : (z : Vector) → pos 0 ≤ℤ turn (span_at σ k i).a (span_at σ k i).b z → pos 0 ≤ℤ turn (side σ k i).a (side σ k i).b z
    span_above_side z = above_alike (span_at σ k i).a (span_at σ k i).b (side σ k i).a (side σ k i).b z (d.placed.rightward k i hk hi) side_runs (on_span d.placed k k i hk (inl refl) hi) (on_span d.placed k (suc k) i hk (inr refl) hi)

  -- ---- over a point of slab k
  module _ (k : ℕ) (z : Vector) (s : IsInSlab σ k z) where
    mark_before : (h j : ℕ) → h ≤ k → j < length (marks_of σ h) → LeX (mark_at σ h j) z
    mark_before h j le hj =
        let hs = s.is_slab in
        let hh : h < length σ.lines = omega arith in
        let hk : k < length σ.lines = omega arith in
        let e = d.placed.on_line h j hh hj in
        let pm = d.placed.mark_points h j hh hj in
        let ph = d.placed.line_points h hh in
        leX_trans (mark_at σ h j) (line_at σ h) z pm ph s.point (omega (arith, linear)) (leX_trans (line_at σ h) (line_at σ k) z ph (d.placed.line_points k hk) s.point (lines_le d.placed h k le hk) s.after)

    mark_after : (h j : ℕ) → k < h → h < length σ.lines → j < length (marks_of σ h) → LtX z (mark_at σ h j)
    mark_after h j less hh hj =
        let hs = s.is_slab in
        let e = d.placed.on_line h j hh hj in
        let ph = d.placed.line_points h hh in
        ltX_leX z (line_at σ h) (mark_at σ h j) s.point ph (d.placed.mark_points h j hh hj) (ltX_leX z (line_at σ (suc k)) (line_at σ h) s.point (d.placed.line_points (suc k) hs) ph s.before (lines_le d.placed (suc k) h (omega arith) hh)) (omega (arith, linear))

    pub other_slab : (n j : ℕ) → ¬ (n ≡ k) → suc n < length σ.lines → j < length (spans_of σ n) → over (side σ n j) z ≡ false
    other_slab n j apart hn hj = by (cases_lt n k)
      where
        by : (n < k) ⊎ (k ≤ n) → over (side σ n j) z ≡ false
        by (inl h) = over_past_both _ _ z (mark_before n (meets_at σ n n j) (omega arith) (met d.placed n n j hn (inl refl) hj)) (mark_before (suc n) (meets_at σ n (suc n) j) (omega arith) (met d.placed n (suc n) j hn (inr refl) hj))
        by (inr h) = over_before_both _ _ z (mark_after n (meets_at σ n n j) (omega arith) (omega arith) (met d.placed n n j hn (inl refl) hj)) (mark_after (suc n) (meets_at σ n (suc n) j) (omega arith) hn (met d.placed n (suc n) j hn (inr refl) hj))

    over_is : (j : ℕ) → j < length (spans_of σ k) → over (side σ k j) z ≡ int_lt (turn (side σ k j).a (side σ k j).b z) (pos 0)
    over_is j hj =
        let hk = s.is_slab in
        over_right_of_a (side σ k j).a (side σ k j).b z (mark_before k (meets_at σ k k j) (omega arith) (met d.placed k k j hk (inl refl) hj)) (mark_after (suc k) (meets_at σ k (suc k) j) (omega arith) hk (met d.placed k (suc k) j hk (inr refl) hj))

    -- what is strictly below a side is strictly below those above it
    below_more : (i j : ℕ) → i ≤ j → j < length (spans_of σ k) → turn (side σ k i).a (side σ k i).b z <ℤ pos 0 → turn (side σ k j).a (side σ k j).b z <ℤ pos 0
    below_more i j le hj below =
        let hk = s.is_slab in
        let h0 : k < length σ.lines = omega arith in
        let hi : i < length (spans_of σ k) = omega arith in
        let li = met d.placed k k i hk (inl refl) hi in
        let lj = met d.placed k k j hk (inl refl) hj in
        let ri = met d.placed k (suc k) i hk (inr refl) hi in
        let rj = met d.placed k (suc k) j hk (inr refl) hj in
        let az = mark_before k (meets_at σ k k i) (omega arith) li in
        let zb = mark_after (suc k) (meets_at σ k (suc k) i) (omega arith) hk ri in
        lower_over (side σ k i).a (side σ k i).b (side σ k j).a (side σ k j).b z (first_point k i hk hi) (last_point k i hk hi) (first_point k j hk hj) (last_point k j hk hj)
        (one_x d.placed k (meets_at σ k k i) (meets_at σ k k j) h0 li lj) (one_x d.placed (suc k) (meets_at σ k (suc k) i) (meets_at σ k (suc k) j) hk ri rj) (side_runs k i hk hi)
        (marks_le d.placed k (meets_at σ k k i) (meets_at σ k k j) h0 (climb (meets_at σ k k) (length (spans_of σ k)) (λ n less. meets_rise d.order k k n (inl refl) less) i j le hj) lj)
        (marks_le d.placed (suc k) (meets_at σ k (suc k) i) (meets_at σ k (suc k) j) hk (climb (meets_at σ k (suc k)) (length (spans_of σ k)) (λ n less. meets_rise d.order k (suc k) n (inr refl) less) i j le hj) rj)
        az (le_of_lt zb) below

    -- of the slab's sides exactly those above side i are over it
    pub own_slab : (i : ℕ) → IsBetween σ k i z → (j : ℕ) → j < length (spans_of σ k) → over (side σ k j) z ≡ ltb i j
    own_slab i b j hj = by (cases_lt i j)
      where
        by : (i < j) ⊎ (j ≤ i) → over (side σ k j) z ≡ ltb i j
        by (inl h) = over_is j hj ∙ lt_true (below_more (suc i) j (omega arith) hj (span_below_side k (suc i) s.is_slab b.is_cell z b.below)) ∙ sym (lt-ltb i j h)
        by (inr h) = over_is j hj ∙ not_below (le_or_lt (pos 0) (turn (side σ k j).a (side σ k j).b z)) ∙ sym (le-ltb i j h)
          where
            not_below : (pos 0 ≤ℤ turn (side σ k j).a (side σ k j).b z) ⊎ (turn (side σ k j).a (side σ k j).b z <ℤ pos 0) → int_lt (turn (side σ k j).a (side σ k j).b z) (pos 0) ≡ false
            not_below (inl l) = lt_false l
            not_below (inr l) =
                let hi : i < length (spans_of σ k) = omega (arith, b.is_cell) in
                absurd (omega (arith, linear, below_more j i h hi l, span_above_side k i s.is_slab hi z b.above))
