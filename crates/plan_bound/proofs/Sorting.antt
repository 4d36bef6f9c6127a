-- Parts in the order of where they begin: what the sort says, by cross products; and a sort changes nothing of what the parts cover.
use Rattle.std.proofs.Common.{◌*ℤ◌, List, get_or, All, Any, arith}
use Rattle.std.specs.List.Sorted.{IsPermutation, IsSortedByKey}
use Rattle.std.specs.Ordering.{is_lt}
use Rattle.std.proofs.lemmas.List.Sorted.{All-permutation, Contains-permutation, sorted_far, ranks_by, IsPermutation-sym}
use Rattle.plan_exact.specs.Vectors.{Vector}
use Rattle.plan_exact.proofs.Laws.{linear}
use Rattle.plan_grid.specs.Fraction.{fraction_cmp}
use Rattle.plan_grid.specs.FractionOrder.{fraction_cmp_total, fraction_cmp_ranked}
use Rattle.plan_grid.proofs.Signs.{not_less}
use Rattle.plan_convex.specs.declared.part.Part.{Part}
use Rattle.plan_convex.specs.Parameter.{IsShare}
use Rattle.plan_bound.specs.Edge.{AreCovered}
use Rattle.plan_bound.specs.Gaps.{IsOpenPart, ByStart, start_of}

pub by_start : (ps : List Part) → All IsOpenPart ps → IsSortedByKey start_of fraction_cmp ps → ByStart ps
by_start ps proper sorted i j d less within =
    let p = get_or ps i d in
    let q = get_or ps j d in
    let hp = (proper i d (omega (arith, less, within))).from in
    let hq = (proper j d within).from in
    not_less (fraction_cmp q.from p.from) (q.from.num *ℤ p.from.den) (p.from.num *ℤ q.from.den) (fraction_cmp_ranked q.from p.from (omega (arith, linear)) (omega (arith, linear)))
    (sorted_far (λ x y. is_lt (fraction_cmp (start_of x) (start_of y))) (ranks_by fraction_cmp_total start_of) ps sorted i j d (omega (arith, less)) within)

any_permutation : (P : Part → Type 0) (xs ys : List Part) → IsPermutation xs ys → Any P xs → Any P ys
any_permutation P xs ys h (k, x, within, is, p) =
    let (j, below, at) = Contains-permutation xs ys x h (k, within, is) in
    (j, x, below, at, p)

pub still_covered : (sums : List (List Vector)) (a b : Vector) (xs ys : List Part) → IsPermutation xs ys → AreCovered sums a b xs → AreCovered sums a b ys
still_covered sums a b xs ys h c = record {
  shares = All-permutation (λ p. IsShare p.from × IsShare p.to) xs ys h c.shares;
  proper = All-permutation IsOpenPart xs ys h c.proper;
  exact = λ z i. let x = c.exact z i in (λ k. any_permutation _ xs ys h (x.0 k), λ k. x.1 (any_permutation _ ys xs (IsPermutation-sym xs ys h) k));
}
