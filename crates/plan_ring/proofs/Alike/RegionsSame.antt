-- Slabs that are alike have the same lots, what a lot holds and whether two lots are neighbours is the same in both.
use Rattle.std.proofs.Common.{◌≡◌, ◌↔◌, ℕ, suc, ◌-◌, ◌&&◌, ◌||◌, eqb, ltb, List, [], ◌∷◌, ◌++◌, length, map, All, if◌then◌else◌, refl, sym, ap, ap₂, subst}
use Rattle.std.specs.List.{AllZip, flat_map, range_with_len}
use Rattle.std.proofs.lemmas.List.Elements.{All-head, All-tail}
use Rattle.plan_spec.specs.Vector.{Vector, IsPoint, LtX, Same, SameX}
use Rattle.plan_spec.specs.Segment.{Segment, HasPoints}
use Rattle.plan_spec.specs.Slabs.{Slabs, line_at, span_at, marks_of, mark_at}
use Rattle.plan_spec.specs.Regions.{Lot, cell, wall, Holds, cell_spot, spot_of, lots, Kept, none, keep, drop, region_at}
use Rattle.plan_spec.specs.Neighbours.{meets, on_left, on_right, in_range, in_left, in_right, beside, neighbours}
use Rattle.plan_plane.proofs.Rising.ByCoordinate.{order_y}
use Rattle.plan_ring.specs.Alike.{AlikeSegment}
use Rattle.plan_ring.proofs.Alike.Slabs.{AlikeSlabs, line_same, span_alike, mark_alike, span_ends, mark_ends, spans_long, marks_long}
use Rattle.plan_ring.proofs.Alike.RegionsTurns.{AlikeTurns, turn_pos, turn_neg, turn_below, halfway_alike, cell_alike}

-- ---- what is kept of a list by two predicates that agree on it
pub one_kept : {X : Type 0} (P Q : X → Type 0) (xs ys zs : List X) → All (λ x. P x ↔ Q x) xs → Kept P xs ys → Kept Q xs zs → ys ≡ zs
one_kept P Q [] [] [] h none none = refl
one_kept P Q [] [] (_ ∷ zs) h _ k = elim k [ ]
one_kept P Q [] (_ ∷ ys) zs h k _ = elim k [ ]
one_kept P Q (x ∷ xs) (_ ∷ ys) (_ ∷ zs) h (keep _ _ _ p k) (keep _ _ _ q l) = ap (λ r. x ∷ r) (one_kept P Q xs ys zs (All-tail (λ x. P x ↔ Q x) x xs h) k l)
one_kept P Q (x ∷ xs) ys zs h (drop _ _ _ p k) (drop _ _ _ q l) = one_kept P Q xs ys zs (All-tail (λ x. P x ↔ Q x) x xs h) k l
one_kept P Q (x ∷ xs) (_ ∷ ys) zs h (keep _ _ _ p k) (drop _ _ _ q l) = absurd (q ((All-head (λ x. P x ↔ Q x) x xs h).0 p))
one_kept P Q (x ∷ xs) ys (_ ∷ zs) h (drop _ _ _ p k) (keep _ _ _ q l) = absurd (p ((All-head (λ x. P x ↔ Q x) x xs h).1 q))

-- ---- where a span meets marks
pub meets_alike : (s t : Segment) (ms ns : List Vector) → HasPoints s → HasPoints t → AlikeSegment s t → All IsPoint ms → All IsPoint ns → AllZip Same ms ns → meets s ms ≡ meets t ns
meets_alike s t [] [] hs ht e hm hn h = refl
meets_alike s t [] (n ∷ ns) hs ht e hm hn h = absurd h
meets_alike s t (m ∷ ms) [] hs ht e hm hn h = absurd h
meets_alike s t (m ∷ ms) (n ∷ ns) hs ht e hm hn h =
    let turns : AlikeTurns s.a s.b m t.a t.b n = record { first = (hs.0, hs.1, All-head IsPoint m ms hm); second = (ht.0, ht.1, All-head IsPoint n ns hn); same = (e.0, e.1, h.0) } in
    ap₂ (λ b c. if b then suc c else 0) (turn_below turns) (meets_alike s t ms ns hs ht e (All-tail IsPoint m ms hm) (All-tail IsPoint n ns hn) h.1)

module _ {σ τ : Slabs} (a : AlikeSlabs σ τ) where
  -- ---- lots
  pub lots_same : lots σ ≡ lots τ
  lots_same =
      λ i. flat_map (λ k. map (cell k) (range_with_len 0 (spans_long a k i - 1)) ++ map (wall (suc k)) (range_with_len 0 (marks_long a (suc k) i - 1))) (range_with_len 0 (a.slab_count i))

  pub spot_alike : (lot : Lot) → Same (spot_of σ lot) (spot_of τ lot)
  spot_alike (cell k i) =
      let s = span_at σ k i in
      let t = span_at σ k (suc i) in
      let u = span_at τ k i in
      let v = span_at τ k (suc i) in
      subst (λ z. Same z (spot_of τ (cell k i))) (sym (ap₂ (λ l r. cell_spot l r s t) (line_same a k) (line_same a (suc k))))
      (cell_alike (line_at τ k) (line_at τ (suc k)) s t u v (span_ends a k i).1 (span_ends a k (suc i)).1 (span_alike a k i) (span_alike a k (suc i)))
  spot_alike (wall k j) = halfway_alike (mark_at σ k j) (mark_at σ k (suc j)) (mark_at τ k j) (mark_at τ k (suc j)) (mark_ends a k j).1 (mark_ends a k (suc j)).1 (mark_alike a k j) (mark_alike a k (suc j))

  turns : (k i : ℕ) (z : Vector) → IsPoint z → AlikeTurns (span_at σ k i).a (span_at σ k i).b z (span_at τ k i).a (span_at τ k i).b z
  turns k i z hz = let (p, q) = span_ends a k i in let e = span_alike a k i in record { first = (p.0, p.1, hz); second = (q.0, q.1, hz); same = (e.0, e.1, (refl, refl)) }

  pub holds_alike : (lot : Lot) (z : Vector) → IsPoint z → Holds σ lot z → Holds τ lot z
  holds_alike (cell k i) z hz h = record {
    after = subst (λ l. LtX l z) (line_same a k) h.after;
    before = subst (λ r. LtX z r) (line_same a (suc k)) h.before;
    above = turn_pos (turns k i z hz) h.above;
    below = turn_neg (turns k (suc i) z hz) h.below;
  }
  holds_alike (wall k j) z hz h = record {
    at = subst (λ l. SameX z l) (line_same a k) h.at;
    above = order_y.equal_less (mark_at τ k j) (mark_at σ k j) z (mark_ends a k j).1 (mark_ends a k j).0 hz (sym (mark_alike a k j).1) h.above;
    below = order_y.less_equal z (mark_at σ k (suc j)) (mark_at τ k (suc j)) hz (mark_ends a k (suc j)).0 (mark_ends a k (suc j)).1 h.below (mark_alike a k (suc j)).1;
  }

  -- ---- neighbours
  meets_same : (k h i : ℕ) → meets (span_at σ k i) (marks_of σ h) ≡ meets (span_at τ k i) (marks_of τ h)
  meets_same k h i = meets_alike (span_at σ k i) (span_at τ k i) (marks_of σ h) (marks_of τ h) (span_ends a k i).0 (span_ends a k i).1 (span_alike a k i) (a.mark_points h).0 (a.mark_points h).1 (a.marks h)

  pub on_left_same : (k i : ℕ) → on_left σ k i ≡ on_left τ k i
  on_left_same k i = meets_same k k i

  pub on_right_same : (k i : ℕ) → on_right σ k i ≡ on_right τ k i
  on_right_same k i = meets_same k (suc k) i

  in_left_same : (x y : Lot) → in_left σ x y ≡ in_left τ x y
  in_left_same (wall n j) (cell k i) = ap₂ (λ p q. eqb n k && in_range p q j) (on_left_same k i) (on_left_same k (suc i))
  in_left_same (wall n j) (wall k i) = refl
  in_left_same (cell n j) y = refl

  in_right_same : (x y : Lot) → in_right σ x y ≡ in_right τ x y
  in_right_same (wall n j) (cell k i) = ap₂ (λ p q. eqb n (suc k) && in_range p q j) (on_right_same k i) (on_right_same k (suc i))
  in_right_same (wall n j) (wall k i) = refl
  in_right_same (cell n j) y = refl

  beside_same : (x y : Lot) → beside σ x y ≡ beside τ x y
  beside_same x y = ap₂ (λ p q. p || q) (in_left_same x y) (in_right_same x y)

  pub neighbours_same : (found : List Lot) → neighbours σ found ≡ neighbours τ found
  neighbours_same found = λ i m n. ltb m (length found) && (ltb n (length found) && (beside_same (region_at found m) (region_at found n) i || beside_same (region_at found n) (region_at found m) i))
