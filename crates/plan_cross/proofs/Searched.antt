-- A binary search in a list that rises finds each point that stands in it.
use Rattle.std.proofs.Common.{◌≡◌, inl, inr, ℕ, ◌+◌, List, length, get_or, All, Any, IsTrue, ◌↔◌, sym, ◌∙◌, ap, subst, arith, Bool, Result, Ok, Err, is_ok}
use Rattle.std.specs.Ordering.{is_lt, ordering_reverse}
use Rattle.std.specs.declared.cmp.Ordering.TheVariants.{Less, Equal, Greater}
use Rattle.std.specs.Cmp.{Equal-is}
use Rattle.std.specs.List.Sorted.{IsSorted, IsBinarySearchResult, IsSearchInRange, IsPartitionPoint}
use Rattle.std.proofs.lemmas.Bool.{cases_lt, true≢false}
use Rattle.std.proofs.lemmas.List.{get_or_default}
use Rattle.std.proofs.lemmas.List.Sorted.{searchable_from_sorted}
use Rattle.plan_spec.specs.Vector.{Vector, IsPoint, Same}
use Rattle.plan_plane.proofs.Segment.Same.{same_true, same_from}
use Rattle.plan_grid.specs.PointOrder.{point_cmp, point_cmp_total}
use Rattle.plan_cross.specs.Ends.{Rises}
use Rattle.plan_cross.proofs.Equal.{equal_is_same}

sorted : (ps : List Vector) → Rises ps → IsSorted point_cmp ps
sorted ps r k d low high = ap is_lt (point_cmp_total.antisymm (get_or ps (k + 1) d) (get_or ps k d) ∙ ap ordering_reverse (r k (k + 1) d (omega arith) high))

-- at one position and equal in the order are one
is_equal : (q p : Vector) → IsPoint q → IsPoint p → Same q p → point_cmp q p ≡ Equal
is_equal q p hq hp s = (Equal-is (point_cmp q p)).0 (equal_is_same q p hq hp ∙ same_from q p s)

pub found : (ps : List Vector) (p : Vector) (r : Result ℕ ℕ) (b : Bool) → b ≡ is_ok r → Rises ps → All IsPoint ps → IsPoint p → IsSearchInRange r (length ps) → IsBinarySearchResult (λ y. point_cmp y p) ps r
    → IsTrue b ↔ Any (λ q. Same q p) ps
found ps p (Ok i) b e rises hs hp within at =
    let q = get_or ps i p in
    (λ t. (i, q, within, get_or_default ps i q p within, same_true q p (sym (equal_is_same q p (hs i p within) hp) ∙ (Equal-is (point_cmp q p)).1 (at p))), λ a. e)
found ps p (Err i) b e rises hs hp within at = (λ t. absurd (true≢false (sym t ∙ e)), λ a. absurd (by (at (searchable_from_sorted point_cmp_total (λ y. y) ps p (sorted ps rises))) a))
  where
    by : IsPartitionPoint (λ y. point_cmp y p ≡ Less) (λ y. point_cmp y p ≡ Greater) ps i → ¬ (Any (λ q. Same q p) ps)
    by h (k, q, w, e, s) = elim (cases_lt k i) [
      | inl l ↦ let e = sym equal ∙ h.0 k p (omega arith) l in absurd (cc)
      | inr l ↦ let e = sym equal ∙ h.1 k p l w in absurd (cc)
    ]
      where
        equal : point_cmp (get_or ps k p) p ≡ Equal
        equal = subst (λ q. point_cmp q p ≡ Equal) (sym e ∙ get_or_default ps k q p w) (is_equal q p (subst IsPoint e (hs k q w)) hp s)
