-- Fractions that are sorted, one of each value.
use Rattle.std.proofs.Common.{◌≡◌, pos, ◌*ℤ◌, ◌≤ℤ◌, refl, subst, true, List, get_or, All, Any, arith}
use Rattle.std.specs.List.{dedup}
use Rattle.std.specs.List.Sorted.{IsSorted, IsPermutation, IsStrictlySortedBy}
use Rattle.std.specs.Ordering.{is_eq}
use Rattle.std.specs.declared.cmp.Ordering.{Ordering}
use Rattle.std.specs.declared.cmp.Ordering.TheVariants.{Less, Equal, Greater}
use Rattle.std.proofs.lemmas.List.Kept.{IsStrictlySortedBy-dedup, Any-dedup, Contains-from_dedup}
use Rattle.std.proofs.lemmas.List.Elements.{Contains-get_or}
use Rattle.std.proofs.lemmas.List.Filters.{All-dedup}
use Rattle.std.proofs.lemmas.List.Sorted.{All-permutation, Contains-permutation, IsPermutation-sym}
use Rattle.std.proofs.lemmas.Map.Keys.{Less-from_sorted}
use Rattle.plan_grid.specs.Fraction.{Fraction, SameValue, IsRatio, fraction_cmp, fraction_eq}
use Rattle.plan_grid.specs.FractionOrder.{fraction_cmp_total, fraction_eq_equivalence, fraction_cmp_ranked}
use Rattle.plan_grid.specs.Order.{IsOrder}
use Rattle.plan_convex.specs.Parameter as P
use Rattle.plan_slab.specs.RisingValues.{IsRisingOf}

-- what the order says of two fractions
pub less_value : (f g : Fraction) → pos 1 ≤ℤ f.den → pos 1 ≤ℤ g.den → fraction_cmp f g ≡ Less → P.Less f g
less_value f g hf hg e = subst (λ o. IsOrder o (f.num *ℤ g.den) (g.num *ℤ f.den)) e (fraction_cmp_ranked f g hf hg)

pub same_value : (f g : Fraction) → pos 1 ≤ℤ f.den → pos 1 ≤ℤ g.den → fraction_eq f g ≡ true → SameValue f g
same_value f g hf hg e = by (fraction_cmp f g) (fraction_cmp_ranked f g hf hg) e
  where
    by : (o : Ordering) → IsOrder o (f.num *ℤ g.den) (g.num *ℤ f.den) → is_eq o ≡ true → SameValue f g
    by Equal h e = h
    by Less h e = absurd (cc)
    by Greater h e = absurd (cc)

pub rising_of : (xs ys : List Fraction) → All IsRatio xs → IsPermutation xs ys → IsSorted fraction_cmp ys → IsRisingOf xs (dedup fraction_eq ys)
rising_of xs ys ratios perm sorted = record {
  ratios = kept;
  rising = λ i j d less within. less_value (get_or zs i d) (get_or zs j d) (kept i d (omega (arith, less, within))).positive (kept j d within).positive (Less-from_sorted fraction_cmp zs i j d strictly less within);
  each = λ f h. Contains-permutation ys xs f (IsPermutation-sym xs ys perm) (Contains-from_dedup fraction_eq ys f h);
  all = λ k d within. same (get_or xs k d) (ratios k d within) (Any-dedup fraction_eq_equivalence ys (get_or xs k d) (Contains-permutation xs ys (get_or xs k d) perm (Contains-get_or xs k d within)));
}
  where
    zs : List Fraction
    zs = dedup fraction_eq ys

    kept : All IsRatio zs
    kept = All-dedup fraction_eq IsRatio ys (All-permutation IsRatio xs ys perm ratios)

    strictly : IsStrictlySortedBy fraction_cmp zs
    strictly = IsStrictlySortedBy-dedup fraction_cmp_total (λ x y. refl) ys sorted

    same : (f : Fraction) → IsRatio f → Any (λ g. fraction_eq f g ≡ true) zs → Any (SameValue f) zs
    same f hf (k, g, within, is, e) = (k, g, within, is, same_value f g hf.positive (subst IsRatio is (kept k g within)).positive e)
