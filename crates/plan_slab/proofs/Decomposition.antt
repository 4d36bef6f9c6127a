-- Slabs and their regions are a decomposition: all that walks and rings take of them, by number.
use Rattle.std.proofs.Common.{◌≡◌, ◌⊎◌, inl, inr, ℕ, zero, suc, ◌<◌, Bool, true, false, ◌||◌, List, [], ◌∷◌, length, All, Any, Contains, ◌&&◌, refl, sym, ap, ap₂, ◌∙◌, subst, arith}
use Rattle.std.proofs.lemmas.Bool.{eq-eqb, eqb-true, and_parts, cases_lt}
use Rattle.std.proofs.lemmas.List.Elements.{All-nil, All-cons}
use Rattle.std.proofs.lemmas.List.{get_or_default, get_or_past}
use Rattle.plan_spec.specs.Vector.{Vector, Same}
use Rattle.plan_spec.specs.Polygon.{Inside}
use Rattle.plan_spec.specs.Frame.{Frame, OnOrBeyond}
use Rattle.plan_spec.specs.Boundary.{IsClearOf}
use Rattle.plan_spec.specs.Pieces.{Piece}
use Rattle.plan_spec.specs.Slabs.{nowhere, nothing, Slabs, line_at, spans_of, span_at, marks_of}
use Rattle.plan_spec.specs.Regions.{Lot, cell, wall, IsLot, spot_of, AreRegions, region_at}
use Rattle.plan_spec.specs.Rings.{is_wall, has_wall}
use Rattle.plan_plane.proofs.Boundary.Decided.{inside_decided}
use Rattle.plan_plane.proofs.Lists.{any_here, any_there, none_of, no_one}
use Rattle.plan_plane.proofs.Segment.Decided.{Decided, either_decided, le_decided}
use Rattle.plan_slab.specs.Laws.{AreSlabsOf}
use Rattle.plan_slab.specs.Decomposition.{AreOnce, AreInOrder, IsPlaced, Touched, IsDecomposition}
use Rattle.plan_slab.proofs.ByNumber.{at_number}
use Rattle.plan_slab.proofs.Meets.InOrder.{meets_at, meets_in_order}
use Rattle.plan_slab.proofs.Meets.MarkRule.{sloped_marks}
use Rattle.plan_slab.proofs.Meets.Tight.{IsAcross, span_across}
use Rattle.plan_slab.proofs.Regions.Cells.{two_lines, span_piece}
use Rattle.plan_slab.proofs.Regions.ExactlyOne.{KnownSlabs, known_slabs, has_lines, slab_at, spot_inside}
use Rattle.plan_slab.proofs.Regions.Numbered.{is_lot, one_number, region_clear, exactly_one, other_touches}

-- ---- the free walls
pub is_wall_is : (k j : ℕ) (lot : Lot) → is_wall k j lot ≡ true → lot ≡ wall k j
is_wall_is k j (cell n i) e = absurd (cc)
is_wall_is k j (wall n i) e = let p = and_parts _ _ e in ap₂ wall (eqb-true n k p.0) (eqb-true i j p.1)

pub wall_is_wall : (k j : ℕ) (lot : Lot) → lot ≡ wall k j → is_wall k j lot ≡ true
wall_is_wall k j lot e = ap (is_wall k j) e ∙ ap₂ (λ a b. a && b) (eq-eqb k k refl) (eq-eqb j j refl)

pub wall_number : (k j : ℕ) (found : List Lot) → has_wall found k j ≡ true → (n : ℕ) × (n < length found) × (region_at found n ≡ wall k j)
wall_number k j [] e = absurd (cc)
wall_number k j (lot ∷ found) e = by (is_wall k j lot) refl e (wall_number k j found)
  where
    by : (t : Bool) → is_wall k j lot ≡ t → t || has_wall found k j ≡ true → (has_wall found k j ≡ true → (n : ℕ) × (n < length found) × (region_at found n ≡ wall k j)) → (n : ℕ) × (n < length (lot ∷ found)) × (region_at (lot ∷ found) n ≡ wall k j)
    by true f h on = (0, omega arith, is_wall_is k j lot f)
    by false f h on = let (n, within, is) = on h in (suc n, omega arith, is)

pub number_wall : (k j : ℕ) (found : List Lot) (n : ℕ) → n < length found → region_at found n ≡ wall k j → has_wall found k j ≡ true
number_wall k j [] n within e = absurd (omega arith)
number_wall k j (lot ∷ found) zero within e = ap (λ t. t || has_wall found k j) (wall_is_wall k j lot e)
number_wall k j (lot ∷ found) (suc n) within e = by (is_wall k j lot) (number_wall k j found n (omega arith) e)
  where
    by : (t : Bool) → has_wall found k j ≡ true → t || has_wall found k j ≡ true
    by true h = refl
    by false h = h

-- ---- what is not clear touches
any_or_none : (sums : List (List Vector)) (z : Vector) → Any (λ vs. Inside vs z) sums ⊎ All (λ vs. ¬ (Inside vs z)) sums
any_or_none [] z = inr (All-nil (λ vs. ¬ (Inside vs z)))
any_or_none (vs ∷ sums) z = by (inside_decided vs z) (any_or_none sums z)
  where
    by : Decided (Inside vs z) → Any (λ vs. Inside vs z) sums ⊎ All (λ vs. ¬ (Inside vs z)) sums → Any (λ vs. Inside vs z) (vs ∷ sums) ⊎ All (λ vs. ¬ (Inside vs z)) (vs ∷ sums)
    by (inl h) r = inl (any_here (λ vs. Inside vs z) vs sums h)
    by (inr n) (inl r) = inl (any_there (λ vs. Inside vs z) vs sums r)
    by (inr n) (inr r) = inr (All-cons (λ vs. ¬ (Inside vs z)) vs sums n r)

pub touched_of : (sums : List (List Vector)) (room : Frame) (z : Vector) → ¬ (IsClearOf sums room z) → Touched sums room z
touched_of sums room z off = by (either_decided (le_decided _ _) (either_decided (le_decided _ _) (either_decided (le_decided _ _) (le_decided _ _)))) (any_or_none sums z)
  where
    by : Decided (OnOrBeyond room z) → Any (λ vs. Inside vs z) sums ⊎ All (λ vs. ¬ (Inside vs z)) sums → Touched sums room z
    by (inl h) r = inl h
    by (inr n) (inl h) = inr h
    by (inr n) (inr h) = absurd (off (record { in_room = n; in_none = h }))

pub clear_of : (sums : List (List Vector)) (room : Frame) (z : Vector) → ¬ (Touched sums room z) → IsClearOf sums room z
clear_of sums room z off = record { in_room = λ h. off (inl h); in_none = none_of (λ vs. Inside vs z) sums (λ h. off (inr h)) }

pub not_touched : (sums : List (List Vector)) (room : Frame) (z : Vector) → IsClearOf sums room z → ¬ (Touched sums room z)
not_touched sums room z clear (inl h) = clear.in_room h
not_touched sums room z clear (inr h) = no_one (λ vs. Inside vs z) sums clear.in_none h

-- ---- the record
module _ {sums : List (List Vector)} {room : Frame} {pieces : List Piece} {σ : Slabs} {found : List Lot} (has : AreSlabsOf sums room pieces σ) (regions : AreRegions sums room σ found) where
  known : KnownSlabs sums room pieces σ
  known = known_slabs has

  -- by the number of lines
  slab_there : (k : ℕ) → suc k < length σ.lines → k < length σ.spans
  slab_there k h = omega (arith, h, has.slabs.slab_count)

  line_there : (k : ℕ) → k < length σ.lines → k < length σ.marks
  line_there k h = omega (arith, h, has.slabs.line_count)

  -- a slab beyond the last has no spans
  slab_with : (k i : ℕ) → i < length (spans_of σ k) → k < length σ.spans
  slab_with k i h = elim (cases_lt k (length σ.spans)) [
    | inl less ↦ less
    | inr past ↦ absurd (omega (arith, h, ap length (get_or_past σ.spans k [] past)))
  ]

  are_once : AreOnce σ found
  are_once = record {
    once = one_number known regions;
    listed = λ k j e. wall_number k j found e;
    free_walls = λ n k j hn e. number_wall k j found n hn e;
    cells = λ n k i hn e. let (hk, hi) = subst (IsLot σ) e (is_lot known regions n hn) in (has_lines known k hk, hi);
    walls = λ n k j hn e. let (hk, hj) = subst (IsLot σ) e (is_lot known regions n hn) in (omega (arith, hk, has.slabs.line_count), hj);
  }

  in_order : AreInOrder σ
  in_order = record {
    on_left_rises = λ k i hi. meets_in_order known k (slab_with k (suc i) hi) i k hi (inl refl);
    on_right_rises = λ k i hi. meets_in_order known k (slab_with k (suc i) hi) i (suc k) hi (inr refl);
  }

  placed : IsPlaced σ
  placed = record {
    line_points = λ k hk. has.slabs.lines.points k nowhere hk;
    mark_points = λ k j hk hj. (has.slabs.marks k (line_there k hk)).points j nowhere hj;
    on_line = λ k j hk hj. sym ((has.slabs.marks k (line_there k hk)).on_line j nowhere hj);
    lines_rise = λ j k less hk. has.slabs.lines.rising j k nowhere less hk;
    marks_rise = λ k i j hk less hj. (has.slabs.marks k (line_there k hk)).rising i j nowhere less hj;
    left_marks = λ k i hk hi. (meets_at known k (slab_there k hk) i k hi (inl refl)).within;
    right_marks = λ k i hk hi. (meets_at known k (slab_there k hk) i (suc k) hi (inr refl)).within;
    rightward = λ k i hk hi. (span_piece (slab_at known k (slab_there k hk)) i hi).strand.rises;
    left_on_span = λ k i hk hi. (meets_at known k (slab_there k hk) i k hi (inl refl)).on;
    right_on_span = λ k i hk hi. (meets_at known k (slab_there k hk) i (suc k) hi (inr refl)).on;
  }

  span_is : (k i : ℕ) → suc k < length σ.lines → i < length (spans_of σ k) → IsAcross sums room (line_at σ k) (line_at σ (suc k)) (span_at σ k i)
  span_is k i hk hi = let slab = slab_at known k (slab_there k hk) in span_across (line_at σ k) (line_at σ (suc k)) (span_at σ k i) slab.known (two_lines slab) (slab.spans.each i nothing hi)

  pub decomposition : IsDecomposition sums room σ found
  decomposition = record {
    floor = has.floor;
    once = are_once;
    order = in_order;
    placed = placed;
    span_points = λ k i hk hi. (span_is k i hk hi).points;
    span_tight = λ k i hk hi. (span_is k i hk hi).tight;
    across = λ k i hk hi. let a = span_is k i hk hi in (a.from, a.to);
    spots = λ n hn. spot_inside known (region_at found n) (is_lot known regions n hn);
    clear = λ n z hn hz holds. region_clear known regions n z hn hz holds;
    covers = λ z hz clear. exactly_one known regions z hz clear;
    closed_walls = λ k j hk hj off.
        let is : IsLot σ (wall k j) = (line_there k hk, hj) in
        let (hz, holds) = spot_inside known (wall k j) is in
        (hz, holds, touched_of sums room (spot_of σ (wall k j)) (other_touches known regions (wall k j) (spot_of σ (wall k j)) hz is holds (out k j off)));
    mark_rule = λ k z hk hz x bare some. at_number (Same z) (marks_of σ k) nowhere (((has.slabs.marks k (line_there k hk)).exact z hz (sym x)).0 (sloped_marks has.bound z hz bare some));
  }
    where
      out : (k j : ℕ) → has_wall found k j ≡ false → ¬ (Contains found (wall k j))
      out k j off (n, within, is) = let on = number_wall k j found n within (get_or_default found n (cell 0 0) (wall k j) within ∙ is) in absurd (cc)
