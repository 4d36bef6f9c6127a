-- Of rungs that are sorted by level, then by number, the first of each level has the least number.
use Rattle.std.proofs.Common.{◌≡◌, ℕ, ◌<◌, ◌≤◌, Bool, true, false, nat_cmp, refl, sym, List, get_or, All, Any, AllPairs, arith}
use Rattle.std.specs.Cmp.{IsTotalOrder}
use Rattle.std.specs.List.{dedup}
use Rattle.std.specs.List.Sorted.{IsSorted, IsSortedByKey, IsPermutation, IsStrictlySortedBy}
use Rattle.std.specs.Ordering.{is_lt, is_eq, ordering_then, MatchOrdering}
use Rattle.std.specs.declared.cmp.Ordering.{Ordering}
use Rattle.std.specs.declared.cmp.Ordering.TheVariants.{Less, Equal, Greater}
use Rattle.std.proofs.lemmas.Cmp.{then_total, on_total, nat_cmp_total, ranked}
use Rattle.std.proofs.lemmas.List.Kept.{IsStrictlySortedBy-dedup, Contains-from_dedup}
use Rattle.std.proofs.lemmas.List.Filters.{All-dedup}
use Rattle.std.proofs.lemmas.List.Sorted.{All-permutation, Contains-permutation, IsPermutation-sym, sorted_far, ranks_by}
use Rattle.std.proofs.lemmas.Map.Keys.{Less-from_sorted}
use Rattle.plan_grid.specs.Fraction.{Fraction, SameValue, fraction_cmp, fraction_eq}
use Rattle.plan_grid.specs.FractionOrder.{fraction_cmp_total}
use Rattle.plan_slab.specs.declared.rungs.Rung.{Rung}
use Rattle.plan_slab.specs.Heights.{IsLevel}
use Rattle.plan_slab.specs.Rungs.{AreLeastOf}
use Rattle.plan_slab.proofs.BarLists.{first_not_less}
use Rattle.plan_slab.proofs.RisingValues.{less_value, same_value}
use Rattle.plan_slab.proofs.Sorted.FirstOfEach.{first_of_each}

abbrev pub key : Rung → Fraction × ℕ
key g = (g.level, g.number)

abbrev pub key_cmp : Fraction × ℕ → Fraction × ℕ → Ordering
key_cmp x y = ordering_then (fraction_cmp x.0 y.0) (nat_cmp x.1 y.1)

key_cmp_total : IsTotalOrder key_cmp
key_cmp_total = then_total (on_total (λ (x : Fraction × ℕ). x.0) fraction_cmp_total) (on_total (λ (x : Fraction × ℕ). x.1) nat_cmp_total)

abbrev pub level_cmp : Rung → Rung → Ordering
level_cmp g h = fraction_cmp g.level h.level

abbrev pub same_level : Rung → Rung → Bool
same_level g h = fraction_eq g.level h.level

-- h stands for g: at its level, with a number that is no greater
abbrev Stands : Rung → Rung → Type 0
Stands h g = (h.number ≤ g.number) × SameValue h.level g.level

-- a later rung of the same level has no lesser number
second_not_less : (o : Ordering) (m n : ℕ) → is_lt (ordering_then o (nat_cmp m n)) ≡ false → is_eq o ≡ true → n ≤ m
second_not_less Less m n h e = absurd (cc)
second_not_less Greater m n h e = absurd (cc)
second_not_less Equal m n h e = by (nat_cmp m n) (ranked m n (nat_cmp m n) refl) h
  where
    by : (r : Ordering) → MatchOrdering r (m < n) (m ≡ n) (n < m) → is_lt r ≡ false → n ≤ m
    by Less k f = absurd (cc)
    by Equal k f = omega (arith, k)
    by Greater k f = omega (arith, k)

pub least_of : (gs ys : List Rung) → All (λ g. IsLevel g.level) gs → IsPermutation gs ys → IsSortedByKey key key_cmp ys → AreLeastOf gs (dedup same_level ys)
least_of gs ys levels perm sorted = record {
  each = λ h has. Contains-permutation ys gs h (IsPermutation-sym gs ys perm) (Contains-from_dedup same_level ys h has);
  rising = λ i j d less within. less_value (get_or (dedup same_level ys) i d).level (get_or (dedup same_level ys) j d).level (kept i d (omega (arith, less, within))).positive (kept j d within).positive (Less-from_sorted level_cmp (dedup same_level ys) i j d strictly less within);
  all = All-permutation (λ g. Any (λ h. Stands h g) (dedup same_level ys)) ys gs (IsPermutation-sym gs ys perm) (first_of_each same_level Stands (λ g. (omega arith, refl)) ys stands);
}
  where
    there : All (λ g. IsLevel g.level) ys
    there = All-permutation (λ g. IsLevel g.level) gs ys perm levels

    kept : All (λ g. IsLevel g.level) (dedup same_level ys)
    kept = All-dedup same_level (λ g. IsLevel g.level) ys there

    by_level : IsSorted level_cmp ys
    by_level k d low within = first_not_less _ _ (sorted k d low within)

    strictly : IsStrictlySortedBy level_cmp (dedup same_level ys)
    strictly = IsStrictlySortedBy-dedup (on_total (λ (g : Rung). g.level) fraction_cmp_total) (λ x y. refl) ys by_level

    stands : AllPairs (λ x y. same_level y x ≡ true → Stands x y) ys
    stands i j d less within e =
        let g = get_or ys i d in
        let h = get_or ys j d in (
          second_not_less (fraction_cmp h.level g.level) h.number g.number (sorted_far (λ x y. is_lt (key_cmp (key x) (key y))) (ranks_by key_cmp_total key) ys sorted i j d (omega (arith, less)) within) e,
          sym (same_value h.level g.level (there j d within).positive (there i d (omega (arith, less, within))).positive e),
        )
