-- The closed parts of a line, added one after another.
use Rattle.std.proofs.Common.{◌≡◌, ℕ, suc, ◌+◌, ◌-◌, ◌≤◌, Bool, true, false, List, [], ◌∷◌, ◌++◌, Contains, refl, sym, ap, ◌∙◌, subst, arith}
use Rattle.std.proofs.lemmas.List.{get_or_default}
use Rattle.plan_spec.specs.Segment as spec
use Rattle.plan_spec.specs.Segment.{segment}
use Rattle.plan_spec.specs.Neighbours.{on_left, on_right}
use Rattle.plan_spec.specs.Regions.{Lot, cell, wall}
use Rattle.plan_spec.specs.Rings.{has_wall, closed_parts, kept}
use Rattle.plan_spec.specs.Slabs.{Slabs, mark_at}
use Rattle.plan_cross.specs.declared.segment.Segment.{Segment}
use Rattle.plan_cross.specs.Segment.{segment_seen}
use Rattle.plan_slab.proofs.Decomposition.{wall_number}
use Rattle.plan_ring.specs.Grown.{IsLowestAt, HasAdded, closed_part}
use Rattle.plan_ring.proofs.Added.{added_one, added_on}

pub is_closed : (found : List Lot) (k j : ℕ) → ¬ (Contains found (wall k j)) → has_wall found k j ≡ false
is_closed found k j off = by (has_wall found k j) refl
  where
    by : (b : Bool) → has_wall found k j ≡ b → has_wall found k j ≡ false
    by false e = e
    by true e = let (n, within, is) = wall_number k j found e in absurd (off (n, within, sym (get_or_default found n (cell 0 0) (wall k j) within) ∙ is))

-- those of the first n parts from a on are added
pub record HasParts (σ : Slabs) (found : List Lot) (k a b at : ℕ) (xs ys : List Segment) : Type 0 where
  pub from : a ≤ at
  pub to : at - a ≤ b - a
  pub added : HasAdded xs ys (closed_parts σ found k a (at - a))

module _ (σ : Slabs) (found : List Lot) (k a b : ℕ) (xs : List Segment) where
  pub next_part : (at : ℕ) (ys zs : List Segment) → at + 1 ≤ b → HasParts σ found k a b at xs ys → HasAdded ys zs (closed_part σ found k at) → HasParts σ found k a b (at + 1) xs zs
  next_part at ys zs less h more =
      let e : suc (at - a) ≡ at + 1 - a = omega (arith, h.from) in
      let f : at ≡ a + (at - a) = omega (arith, h.from) in
      record {
        from = omega (arith, h.from);
        to = omega (arith, h.from, less);
        added = subst (λ n. HasAdded xs zs (closed_parts σ found k a n)) e (added_on xs ys zs (closed_parts σ found k a (at - a)) (closed_part σ found k (a + (at - a))) h.added (subst (λ j. HasAdded ys zs (closed_part σ found k j)) f more));
      }

-- ---- a cell, by the marks in which its spans meet its lines
module _ (σ : Slabs) (found : List Lot) (k i h j : ℕ) (next_line : h ≡ suc k) (next_span : j ≡ suc i) where
  abbrev by_marks : ℕ → ℕ → ℕ → ℕ → List spec.Segment
  by_marks l r u v = segment (mark_at σ k l) (mark_at σ h r) ∷ (closed_parts σ found h r (v - r) ++ (segment (mark_at σ k u) (mark_at σ h v) ∷ closed_parts σ found k l (u - l)))

  pub cell_added : (l r u v : ℕ) → l ≡ on_left σ k i → r ≡ on_right σ k i → u ≡ on_left σ k j → v ≡ on_right σ k j → (xs xs1 xs2 xs3 ys : List Segment) (s t : Segment)
      → xs1 ≡ xs ++ s ∷ [] → IsLowestAt (segment_seen s) (segment (mark_at σ k l) (mark_at σ h r)) → HasAdded xs1 xs2 (closed_parts σ found h r (v - r))
      → xs3 ≡ xs2 ++ t ∷ [] → IsLowestAt (segment_seen t) (segment (mark_at σ k u) (mark_at σ h v)) → HasAdded xs3 ys (closed_parts σ found k l (u - l)) → HasAdded xs ys (kept σ found (cell k i))
  cell_added l r u v el er eu ev xs xs1 xs2 xs3 ys s t is1 at_s right is3 at_t left =
      let lower = segment (mark_at σ k l) (mark_at σ h r) in
      let upper = segment (mark_at σ k u) (mark_at σ h v) in
      let both : HasAdded xs2 ys (upper ∷ closed_parts σ found k l (u - l)) = added_on xs2 xs3 ys (upper ∷ []) (closed_parts σ found k l (u - l)) (added_one xs2 xs3 t upper is3 at_t) left in
      let all : HasAdded xs ys (by_marks l r u v) =
      added_on xs xs1 ys (lower ∷ []) (closed_parts σ found h r (v - r) ++ (upper ∷ closed_parts σ found k l (u - l))) (added_one xs xs1 s lower is1 at_s) (added_on xs1 xs2 ys (closed_parts σ found h r (v - r)) (upper ∷ closed_parts σ found k l (u - l)) right both) in
      let e : by_marks l r u v ≡ kept σ found (cell k i) = by_numbers l r u v el er (eu ∙ ap (on_left σ k) next_span) (ev ∙ ap (on_right σ k) next_span) in
      subst (HasAdded xs ys) e all
    where
      by_numbers : (l r u v : ℕ) → l ≡ on_left σ k i → r ≡ on_right σ k i → u ≡ on_left σ k (suc i) → v ≡ on_right σ k (suc i) → by_marks l r u v ≡ kept σ found (cell k i)
      by_numbers l r u v el er eu ev =
          ap (λ l. by_marks l r u v) el ∙ ap (λ r. by_marks (on_left σ k i) r u v) er ∙ ap (λ u. by_marks (on_left σ k i) (on_right σ k i) u v) eu ∙ ap (λ v. by_marks (on_left σ k i) (on_right σ k i) (on_left σ k (suc i)) v) ev
          ∙ ap (λ h. segment (mark_at σ k (on_left σ k i)) (mark_at σ h (on_right σ k i)) ∷ (closed_parts σ found h (on_right σ k i) (on_right σ k (suc i) - on_right σ k i) ++ (segment (mark_at σ k (on_left σ k (suc i))) (mark_at σ h (on_right σ k (suc i))) ∷ closed_parts σ found k (on_left σ k i) (on_left σ k (suc i) - on_left σ k i)))) next_line
