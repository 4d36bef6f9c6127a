-- What is kept of a free cell is sound: each segment has two ends, which are points, and is tight.
use Rattle.std.proofs.Common.{◌≡◌, ◌⊎◌, inl, inr, ℕ, zero, suc, ◌+◌, ◌-◌, ◌<◌, ◌≤◌, ◌*ℤ◌, Bool, true, false, List, [], ◌∷◌, length, All, if◌then◌else◌, refl, sym, subst, arith}
use Rattle.std.proofs.lemmas.Bool.{cases_lt}
use Rattle.std.proofs.lemmas.List.Elements.{All-append, All-nil, All-cons}
use Rattle.plan_exact.proofs.Laws.{linear}
use Rattle.plan_exact.proofs.Signs.{le_of_lt}
use Rattle.plan_spec.specs.Vector.{Vector, IsPoint, SameX, LeX, LeY, LtY}
use Rattle.plan_spec.specs.Segment.{Segment, segment, HasPoints}
use Rattle.plan_spec.specs.Frame.{Frame}
use Rattle.plan_spec.specs.Boundary.{IsUncovered}
use Rattle.plan_spec.specs.Reply.{IsTight, IsSound}
use Rattle.plan_spec.specs.Slabs.{Slabs, line_at, spans_of, span_at, marks_of, mark_at}
use Rattle.plan_spec.specs.Regions.{Lot, cell, wall, Holds, spot_of, region_at}
use Rattle.plan_spec.specs.Rings.{has_wall, side, part, closed_parts, right_parts, kept}
use Rattle.plan_plane.proofs.Polygon.Holding.{inside_between}
use Rattle.plan_plane.proofs.Rising.ByCoordinate.{order_x}
use Rattle.plan_plane.proofs.Segment.Between.{Between, between_x, flip, flipped, LeX_before, LeX_after}
use Rattle.plan_plane.proofs.Segment.ByX.{leX_trans}
use Rattle.plan_slab.specs.Decomposition.{IsDecomposition}
use Rattle.plan_ring.proofs.Exposed.{OnRim, exposed}
use Rattle.plan_map.proofs.Path.Places.{IsLineOf, meets_at, is_line, between_lines, marks_le, level, met, met_point, on_span, meets_rise, not_below_span, not_above_span, leY_trans, leY_ltY, ltY_leY}
use Rattle.plan_ring.proofs.Sides.{first_point, last_point, first_level, last_level, side_runs}
use Rattle.plan_ring.proofs.SideTight.{IsBarePart, part_tight}

-- two different points as ends, and tight
abbrev pub IsGood : List (List Vector) → Frame → Segment → Type 0
IsGood sums room s = HasPoints s × IsSound (IsTight sums room) s

-- a part of a tight segment is tight
part_of_tight : (sums : List (List Vector)) (room : Frame) (s : Segment) (u v : Vector) → IsTight sums room s → Between s.a s.b u → Between s.a s.b v → IsTight sums room (segment u v)
part_of_tight sums room s u v (inl (k, vs, within, e, (ha, hb))) bu bv = inl (k, vs, within, e, (inside_between vs ha hb bu, inside_between vs ha hb bv))
part_of_tight sums room s u v (inr (inl (ha, hb))) bu bv = inr (inl (LeX_before bu room.low ha hb, LeX_before bv room.low ha hb))
part_of_tight sums room s u v (inr (inr (inl (ha, hb)))) bu bv = inr (inr (inl (LeX_after bu room.high ha hb, LeX_after bv room.high ha hb)))
part_of_tight sums room s u v (inr (inr (inr (inl (ha, hb))))) bu bv = inr (inr (inr (inl (LeX_before (flipped bu) (flip room.low) ha hb, LeX_before (flipped bv) (flip room.low) ha hb))))
part_of_tight sums room s u v (inr (inr (inr (inr (ha, hb))))) bu bv = inr (inr (inr (inr (LeX_after (flipped bu) (flip room.high) ha hb, LeX_after (flipped bv) (flip room.high) ha hb))))

parts_all : (P : Segment → Type 0) (σ : Slabs) (found : List Lot) (h a n : ℕ) → ((j : ℕ) → a ≤ j → j < a + n → has_wall found h j ≡ false → P (part σ h j)) → All P (closed_parts σ found h a n)
parts_all P σ found h a zero each = All-nil P
parts_all P σ found h a (suc n) each = All-append P (closed_parts σ found h a n) _ (parts_all P σ found h a n (λ j l m. each j l (omega arith))) (by (has_wall found h (a + n)) refl)
  where
    by : (f : Bool) → has_wall found h (a + n) ≡ f → All P (if f then [] else part σ h (a + n) ∷ [])
    by true e = All-nil P
    by false e = All-cons P (part σ h (a + n)) [] (each (a + n) (omega arith) (omega arith) e) (All-nil P)

module _ {sums : List (List Vector)} {room : Frame} {σ : Slabs} {found : List Lot} (d : IsDecomposition sums room σ found) where
  -- ---- along spans
  side_good : (k i : ℕ) → suc k < length σ.lines → i < length (spans_of σ k) → IsGood sums room (side σ k i)
  side_good k i hk hi =
      let h0 : k < length σ.lines = omega arith in
      let s = span_at σ k i in
      let l = (side σ k i).a in
      let r = (side σ k i).b in
      let pl = first_point d k i hk hi in
      let pr = last_point d k i hk hi in
      let hs = d.span_points k i hk hi in
      let x = d.across k i hk hi in
      let run = side_runs d k i hk hi in
      let e = first_level d k i hk hi in
      let f = last_level d k i hk hi in
      let ll : LeX (line_at σ k) l = omega (arith, linear) in
      let rr : LeX r (line_at σ (suc k)) = omega (arith, linear) in
      let al : LeX s.a l = leX_trans s.a (line_at σ k) l hs.0 (d.placed.line_points k h0) pl x.0 ll in
      let rb : LeX r s.b = leX_trans r (line_at σ (suc k)) s.b pr (d.placed.line_points (suc k) hk) hs.1 rr x.1 in
      let runs = d.placed.rightward k i hk hi in (
        (pl, pr),
        (
          (λ same. let g = same.0 in omega (arith, linear)),
          part_of_tight sums room s l r (d.span_tight k i hk hi)
              (between_x s.a s.b l runs al (leX_trans l r s.b pl pr hs.1 (le_of_lt run) rb) (on_span d.placed k k i hk (inl refl) hi))
              (between_x s.a s.b r runs (leX_trans s.a l r hs.0 pl pr al (le_of_lt run)) rb (on_span d.placed k (suc k) i hk (inr refl) hi)),
        ),
      )

  -- ---- along a line of the cell c of slab k above span i
  module _ (c k i : ℕ) (hc : c < length found) (e : region_at found c ≡ cell k i) (h : ℕ) (b : IsLineOf k h) where
    hk : suc k < length σ.lines
    hk = (d.once.cells c k i hc e).0

    h1 : suc i < length (spans_of σ k)
    h1 = (d.once.cells c k i hc e).1

    hi : i < length (spans_of σ k)
    hi = omega (arith, h1)

    hh : h < length σ.lines
    hh = is_line d.placed k h hk b

    on_rim : (z : Vector) → IsPoint z → SameX z (line_at σ h) → LeY (mark_at σ h (meets_at σ k h i)) z → LeY z (mark_at σ h (meets_at σ k h (suc i))) → OnRim (line_at σ k) (line_at σ (suc k)) (span_at σ k i) (span_at σ k (suc i)) z
    on_rim z hz level up down =
        let lines = between_lines d.placed k h z hk b hz level in
        record {
          after = lines.0;
          before = lines.1;
          above = not_below_span d.placed k h i hk b hi z hz level up;
          below = not_above_span d.placed k h (suc i) hk b h1 z hz level down;
        }

    uncovered : (z : Vector) → IsPoint z → SameX z (line_at σ h) → LeY (mark_at σ h (meets_at σ k h i)) z → LeY z (mark_at σ h (meets_at σ k h (suc i))) → IsUncovered sums room z
    uncovered z hz level up down =
        let s = d.spots c hc in
        exposed sums room (line_at σ k) (line_at σ (suc k)) (span_at σ k i) (span_at σ k (suc i)) (λ p hp inside. d.clear c p hc hp (subst (λ x. Holds σ x p) (sym e) inside)) (spot_of σ (region_at found c)) s.0 (subst (λ x. Holds σ x (spot_of σ (region_at found c))) e s.1)
        z (omega (arith, linear, d.floor.spots.low)) (omega (arith, linear, d.floor.spots.high)) hz (on_rim z hz level up down)

    module _ (j : ℕ) (from : meets_at σ k h i ≤ j) (to : suc j ≤ meets_at σ k h (suc i)) where
      within : suc j < length (marks_of σ h)
      within = omega (arith, met d.placed k h (suc i) hk b h1)

      first : IsPoint (mark_at σ h j)
      first = d.placed.mark_points h j hh (omega (arith, within))

      last : IsPoint (mark_at σ h (suc j))
      last = d.placed.mark_points h (suc j) hh within

      on_h : (z : Vector) → IsPoint z → SameX (mark_at σ h j) z → SameX z (line_at σ h)
      on_h z hz same = order_x.trans z (mark_at σ h j) (line_at σ h) hz first (d.placed.line_points h hh) (sym same) (d.placed.on_line h j hh (omega (arith, within)))

      bare_part : IsBarePart sums room (mark_at σ h j) (mark_at σ h (suc j))
      bare_part = record {
        first = first;
        last = last;
        upright = level d.placed h (suc j) (mark_at σ h j) hh within first (d.placed.on_line h j hh (omega (arith, within)));
        uncovered = exposes;
        bare = λ z hz same up down some. let (n, hn, at) = d.mark_rule h z hh hz (on_h z hz same) (exposes z hz same up down) some in no_mark z hz up down n hn at.1 (cases_lt j n);
      }
        where
          lo : meets_at σ k h i < length (marks_of σ h)
          lo = met d.placed k h i hk b hi

          up_to : meets_at σ k h (suc i) < length (marks_of σ h)
          up_to = met d.placed k h (suc i) hk b h1

          exposes : (z : Vector) → IsPoint z → SameX (mark_at σ h j) z → LtY (mark_at σ h j) z → LtY z (mark_at σ h (suc j)) → IsUncovered sums room z
          exposes z hz same up down =
              uncovered z hz (on_h z hz same)
              (leY_trans (mark_at σ h (meets_at σ k h i)) (mark_at σ h j) z (met_point d.placed k h i hk b hi) first hz (marks_le d.placed h (meets_at σ k h i) j hh from (omega (arith, within))) (le_of_lt up))
              (leY_trans z (mark_at σ h (suc j)) (mark_at σ h (meets_at σ k h (suc i))) hz last (met_point d.placed k h (suc i) hk b h1) (le_of_lt down) (marks_le d.placed h (suc j) (meets_at σ k h (suc i)) hh to up_to))

          no_mark : (z : Vector) → IsPoint z → LtY (mark_at σ h j) z → LtY z (mark_at σ h (suc j)) → (n : ℕ) → n < length (marks_of σ h) → z.y *ℤ (mark_at σ h n).w ≡ (mark_at σ h n).y *ℤ z.w → (j < n) ⊎ (n ≤ j) → ⊥
          no_mark z hz up down n hn same (inl l) = omega (arith, linear, ltY_leY z (mark_at σ h (suc j)) (mark_at σ h n) hz last (d.placed.mark_points h n hh hn) down (marks_le d.placed h (suc j) n hh (omega arith) hn))
          no_mark z hz up down n hn same (inr l) = omega (arith, linear, leY_ltY (mark_at σ h n) (mark_at σ h j) z (d.placed.mark_points h n hh hn) first hz (marks_le d.placed h n j hh l (omega (arith, within))) up)

      part_good : has_wall found h j ≡ false → IsGood sums room (part σ h j)
      part_good off =
          let (hm, inside, touched) = d.closed_walls h j hh within off in
          let rises = d.placed.marks_rise h j (suc j) hh (omega arith) within in
          let m = spot_of σ (wall h j) in
          ((first, last), ((λ same. let g = same.1 in omega (arith, linear)), part_tight d.floor bare_part m hm (sym (level d.placed h j m hh (omega (arith, within)) hm inside.at)) inside.above inside.below touched))

    parts_good : All (IsGood sums room) (closed_parts σ found h (meets_at σ k h i) (meets_at σ k h (suc i) - meets_at σ k h i))
    parts_good = parts_all (IsGood sums room) σ found h (meets_at σ k h i) (meets_at σ k h (suc i) - meets_at σ k h i) (λ j from less. let rise = meets_rise d.order k h i b h1 in part_good j from (omega arith))

  -- ---- all that is kept
  pub kept_good : (c : ℕ) → c < length found → All (IsGood sums room) (kept σ found (region_at found c))
  kept_good c hc = by (region_at found c) refl
    where
      by : (x : Lot) → region_at found c ≡ x → All (IsGood sums room) (kept σ found (region_at found c))
      by (wall h j) e = subst (λ x. All (IsGood sums room) (kept σ found x)) (sym e) (All-nil (IsGood sums room))
      by (cell k i) e =
          let at = d.once.cells c k i hc e in
          subst (λ x. All (IsGood sums room) (kept σ found x)) (sym e)
          (All-cons (IsGood sums room) (side σ k i) _ (side_good k i at.0 (omega (arith, at.1)))
          (All-append (IsGood sums room) (right_parts σ found k i) _ (parts_good c k i hc e (suc k) (inr refl))
          (All-cons (IsGood sums room) (side σ k (suc i)) _ (side_good k (suc i) at.0 at.1) (parts_good c k i hc e k (inl refl)))))
