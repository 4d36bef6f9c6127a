-- The bars that a sweep takes up and lets go.
use Rattle.std.proofs.Common.{◌≡◌, ◌⊎◌, inl, inr, ⊎_elim, ℕ, ◌+◌, ◌<◌, true, refl, sym, subst, ◌∙◌, List, [], ◌∷◌, ◌++◌, get_or, length, Any, Contains, arith}
use Rattle.std.specs.List.{filter}
use Rattle.std.proofs.lemmas.Int.{ints}
use Rattle.std.proofs.lemmas.List.{get_or_default}
use Rattle.std.proofs.lemmas.List.Elements.{All-push, All-weaker, All-contains_itself, Contains-append_left, Contains-push, Contains-get_or}
use Rattle.plan_exact.proofs.Tests.{le_true}
use Rattle.plan_plane.proofs.Lists.{any_filter, any_unfilter}
use Rattle.plan_grid.specs.Fraction.{Fraction}
use Rattle.plan_slab.specs.declared.bar.Bar.{Bar}
use Rattle.plan_slab.specs.Bars.{lasts}
use Rattle.plan_slab.specs.Sweeps.{BeginsBy, LastsTo, AreEntered, AreKept}
use Rattle.plan_slab.proofs.XValues.{order_nat}

pub none_entered : (bars : List Bar) (n : ℕ) (l : Fraction) (xs : List Bar) → AreEntered bars n n l xs xs
none_entered bars n l xs = record {
  each = All-weaker (Contains xs) (λ b. Contains xs b ⊎ (Contains bars b × BeginsBy l b)) (λ b h. inl h) xs (All-contains_itself xs);
  old = λ b h. h;
  new = λ k d low high. absurd (omega (arith, low, high));
}

pub one_entered : (bars : List Bar) (m i : ℕ) (l : Fraction) (xs ys : List Bar) (b : Bar) → AreEntered bars m i l xs ys → i < length bars → b ≡ get_or bars i b → BeginsBy l b → AreEntered bars m (i + 1) l xs (ys ++ b ∷ [])
one_entered bars m i l xs ys b h within is begins = record {
  each = All-push (λ b. Contains xs b ⊎ (Contains bars b × BeginsBy l b)) ys b h.each (inr ((i, within, sym is), begins));
  old = λ x has. Contains-append_left ys (b ∷ []) x (h.old x has);
  new = λ k d low less. ⊎_elim (λ high. Contains-append_left ys (b ∷ []) (get_or bars k d) (h.new k d low high)) (λ e. subst (Contains (ys ++ b ∷ [])) (subst (λ j. b ≡ get_or bars j d) (sym e) (is ∙ get_or_default bars i b d within)) (Contains-push ys b)) (order_nat k i less);
}

-- ---- a filter
to_any : (xs : List Bar) (b : Bar) → Contains xs b → Any (λ x. x ≡ b) xs
to_any xs b (k, within, is) = (k, b, within, is, refl)

from_any : (xs : List Bar) (b : Bar) → Any (λ x. x ≡ b) xs → Contains xs b
from_any xs b (k, x, within, is, e) = (k, within, get_or_default xs k b x within ∙ is ∙ e)

true_le : (l : Fraction) (b : Bar) → lasts l b.piece ≡ true → LastsTo l b
true_le l b e = omega (arith, ints, e)

pub kept_by : (l : Fraction) (xs : List Bar) → AreKept l xs (filter (λ b. lasts l b.piece) xs)
kept_by l xs = record {
  each = λ k d within.
      let b = get_or ys k d in
      let (j, x, below, is, (true_at, e)) = any_unfilter (λ x. x ≡ b) (λ b. lasts l b.piece) xs (to_any ys b (Contains-get_or ys k d within)) in
      (from_any xs b (j, x, below, is, e), true_le l b (subst (λ x. lasts l x.piece ≡ true) e true_at));
  all = λ b has to. from_any ys b (any_filter (λ x. x ≡ b) (λ b. lasts l b.piece) xs (let (j, within, is) = has in (j, b, within, is, (le_true to, refl))));
}
  where
    ys : List Bar
    ys = filter (λ b. lasts l b.piece) xs
