-- A region is convex, and the way from a point of a wall to a point of a cell beside it is in the two.
use Rattle.std.proofs.Common.{◌≡◌, ◌⊎◌, inl, inr, ℕ, suc, ◌<◌, ◌≤◌, pos, ◌<ℤ◌, Bool, true, false, length, refl, sym, subst, arith}
use Rattle.std.proofs.lemmas.Bool.{and_parts, or_cases, eqb-true, leb-true, ltb-true}
use Rattle.plan_exact.specs.Vectors.{cross, opposite}
use Rattle.plan_exact.proofs.Laws.{linear}
use Rattle.plan_exact.proofs.Vectors.{dot_opposite}
use Rattle.plan_spec.specs.Vector.{Vector, IsPoint, LeX, Same, same, turn}
use Rattle.plan_spec.specs.Segment.{Segment}
use Rattle.plan_spec.specs.Slabs.{Slabs, line_at, spans_of, span_at, marks_of, mark_at}
use Rattle.plan_spec.specs.Regions.{Lot, cell, wall, InCell, Holds}
use Rattle.plan_spec.specs.Neighbours.{in_left, in_right, beside}
use Rattle.plan_plane.proofs.Segment.AtEnds.{second_weight, pos_by_second}
use Rattle.plan_plane.proofs.Segment.Between.{Between, between_same, pos_at, neg_at, flip, right_of, right_of_is, LeX_before, LeX_after, LtX_before, LtX_after, flipped}
use Rattle.plan_plane.proofs.Segment.Same.{same_true, same_from, Same-swapped}
use Rattle.plan_slab.specs.Decomposition.{IsPlaced}
use Rattle.plan_map.proofs.Path.Places.{IsLineOf, meets_at, between_lines, above_from, below_from}

-- ---- one region
pub convex_lot : (σ : Slabs) (lot : Lot) {p q z : Vector} → IsPoint z → Holds σ lot p → Holds σ lot q → Between p q z → Holds σ lot z
convex_lot σ (cell k i) hz hp hq b = record {
  after = LtX_after hz b (line_at σ k) hp.after hq.after;
  before = LtX_before hz b (line_at σ (suc k)) hp.before hq.before;
  above = pos_at hz b (cross (span_at σ k i).a (span_at σ k i).b) hp.above hq.above;
  below = neg_at hz b (cross (span_at σ k (suc i)).a (span_at σ k (suc i)).b) hp.below hq.below;
}
convex_lot σ (wall k j) hz hp hq b =
    let e = hp.at in
    let f = hq.at in
    record {
      at = omega (arith, linear, LeX_before b (line_at σ k) (omega (arith, linear)) (omega (arith, linear)), LeX_after b (line_at σ k) (omega (arith, linear)) (omega (arith, linear)));
      above = LtX_after hz (flipped b) (flip (mark_at σ k j)) hp.above hq.above;
      below = LtX_before hz (flipped b) (flip (mark_at σ k (suc j))) hp.below hq.below;
    }

-- ---- from a point m that is between two spans, on one of the lines of their slab, to a point c of the cell: only m itself is not in the cell
to_cell : (l r : Vector) (s t : Segment) {m c z : Vector} → IsPoint m → IsPoint z → LeX l m → LeX m r → pos 0 <ℤ turn s.a s.b m → turn t.a t.b m <ℤ pos 0 → InCell l r s t c → Between m c z → Same m z ⊎ InCell l r s t z
to_cell l r s t {m} {c} {z} hm hz after before above below inside b = by (same z m) refl
  where
    by : (test : Bool) → same z m ≡ test → Same m z ⊎ InCell l r s t z
    by true e = inl (Same-swapped z m (same_true z m e))
    by false e = inr (record {
      after = let h = inside.after in let f = pos_by_second b (right_of l) w (omega (arith, linear, right_of_is l m)) (omega (arith, linear, right_of_is l c)) in omega (arith, linear, right_of_is l z);
      before =
          let h = inside.before in
          let f = pos_by_second b (opposite (right_of r)) w (omega (arith, linear, dot_opposite (right_of r) m, right_of_is r m)) (omega (arith, linear, dot_opposite (right_of r) c, right_of_is r c)) in
          omega (arith, linear, dot_opposite (right_of r) z, right_of_is r z);
      above = pos_at hz b (cross s.a s.b) above inside.above;
      below = neg_at hz b (cross t.a t.b) below inside.below;
    })
      where
        w : pos 0 <ℤ b.second
        w = second_weight b (λ h. let f = same_from z m h in absurd (cc))

-- ---- by number
module _ {σ : Slabs} (placed : IsPlaced σ) where
  -- the wall is in the cell's side on the line h
  from_side : (k h i j : ℕ) → suc k < length σ.lines → IsLineOf k h → suc i < length (spans_of σ k) → suc j < length (marks_of σ h) → meets_at σ k h i ≤ j → j < meets_at σ k h (suc i) → {m c z : Vector} → IsPoint m → IsPoint z → Holds σ (wall h j) m → Holds σ (cell k i) c → Between m c z → Same m z ⊎ Holds σ (cell k i) z
  from_side k h i j hk side hi hj low high {m} hm hz w inside b =
      let lines = between_lines placed k h m hk side hm w.at in
      to_cell (line_at σ k) (line_at σ (suc k)) (span_at σ k i) (span_at σ k (suc i)) hm hz lines.0 lines.1
      (above_from placed k h i hk side (omega arith) m hm w.at j hj w.above low) (below_from placed k h (suc i) hk side hi m hm w.at j hj w.below high) inside b

  -- whichever side
  pub between_lots : (a b : Lot) → ((k j : ℕ) → a ≡ wall k j → (k < length σ.lines) × (suc j < length (marks_of σ k))) → ((k i : ℕ) → b ≡ cell k i → (suc k < length σ.lines) × (suc i < length (spans_of σ k)))
      → beside σ a b ≡ true → {p q z : Vector} → IsPoint p → IsPoint q → IsPoint z → Holds σ a p → Holds σ b q → Between p q z → Holds σ a z ⊎ Holds σ b z
  between_lots (cell k i) b wf cf e hp hq hz ip iq on = absurd (cc)
  between_lots (wall k j) (wall n i) wf cf e hp hq hz ip iq on = absurd (cc)
  between_lots (wall h j) (cell k i) wf cf e {p} {q} {z} hp hq hz ip iq on = by (or_cases (in_left σ (wall h j) (cell k i)) (in_right σ (wall h j) (cell k i)) e)
    where
      c : (suc k < length σ.lines) × (suc i < length (spans_of σ k))
      c = cf k i refl

      w : (h < length σ.lines) × (suc j < length (marks_of σ h))
      w = wf h j refl

      -- at the place of p it is in the wall
      back : Same p z ⊎ Holds σ (cell k i) z → Holds σ (wall h j) z ⊎ Holds σ (cell k i) z
      back (inl s) = inl (convex_lot σ (wall h j) hz ip ip (between_same p p z hp hz s))
      back (inr h) = inr h

      by : (in_left σ (wall h j) (cell k i) ≡ true) ⊎ (in_right σ (wall h j) (cell k i) ≡ true) → Holds σ (wall h j) z ⊎ Holds σ (cell k i) z
      by (inl f) =
          let u = and_parts _ _ f in
          let v = and_parts _ _ u.1 in
          let same : h ≡ k = eqb-true h k u.0 in
          back (from_side k h i j c.0 (inl same) c.1 w.1 (subst (λ h. meets_at σ k h i ≤ j) (sym same) (leb-true _ _ v.0)) (subst (λ h. j < meets_at σ k h (suc i)) (sym same) (ltb-true _ _ v.1)) hp hz ip iq on)
      by (inr f) =
          let u = and_parts _ _ f in
          let v = and_parts _ _ u.1 in
          let same : h ≡ suc k = eqb-true h (suc k) u.0 in
          back (from_side k h i j c.0 (inr same) c.1 w.1 (subst (λ h. meets_at σ k h i ≤ j) (sym same) (leb-true _ _ v.0)) (subst (λ h. j < meets_at σ k h (suc i)) (sym same) (ltb-true _ _ v.1)) hp hz ip iq on)
