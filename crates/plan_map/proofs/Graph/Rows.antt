-- The row of a region: its neighbours, those on its left and then those on its right.
use Rattle.std.proofs.Common.{◌≡◌, inl, inr, ◌↔◌, ℕ, ◌+◌, ◌-◌, ◌<◌, ◌≤◌, List, ◌++◌, length, get_or, All, Contains, MatchOption, Option, Some, None, refl, sym, ap, ◌∙◌, subst, arith}
use Rattle.std.proofs.lemmas.Bool.{cases_lt}
use Rattle.std.proofs.lemmas.List.{get_or_append_left, get_or-append_right, length-append}
use Rattle.std.proofs.lemmas.List.FromFn.{length-range_with_len}
use Rattle.std.proofs.lemmas.List.Elements.{All-append}
use Rattle.plan_slab.specs.declared.row.Row.{Row}
use Rattle.plan_map.specs.Row.{numbers_of, no_row, in_row, AreRows}
use Rattle.plan_map.specs.Search.{IsRow, IsFirstOf, numbers}
use Rattle.plan_map.proofs.Graph.Numbers.{number_at}

pub among : (a b n : ℕ) → Contains (numbers a b) n ↔ ((a ≤ n) × (n < b))
among a b n = (to, from)
  where
    to : Contains (numbers a b) n → (a ≤ n) × (n < b)
    to (k, within, is) =
        let less : k < b - a = omega (arith, within, length-range_with_len a (b - a)) in
        let e : a + k ≡ n = sym (number_at a b k n less) ∙ is in
        (omega (arith, e), omega (arith, e, less))

    from : (a ≤ n) × (n < b) → Contains (numbers a b) n
    from (low, high) = (n - a, omega (arith, length-range_with_len a (b - a)), number_at a b (n - a) n (omega arith) ∙ omega arith)

-- ---- rows
pub row_of : {rows : List Row} → AreRows rows → (r : ℕ) → r < length rows → IsRow (in_row rows) r (numbers_of (get_or rows r no_row))
row_of are r within = record { exact = λ n. ((λ h. h), λ h. h); rising = are.rising r within }

-- ---- the first of two parts
module _ (P : ℕ → Type 0) (xs ys : List ℕ) where
  pub first_in_left : (n : ℕ) → IsFirstOf P xs n → IsFirstOf P (xs ++ ys) n
  first_in_left n f = record {
    place = f.place;
    within = omega (arith, f.within, length-append xs ys);
    is = get_or_append_left xs ys 0 f.place f.within ∙ f.is;
    has = f.has;
    earlier = λ j less p. f.earlier j less (subst P (get_or_append_left xs ys 0 j (omega (arith, f.within))) p);
  }

  first_in_right : (n : ℕ) → All (λ m. ¬ (P m)) xs → IsFirstOf P ys n → IsFirstOf P (xs ++ ys) n
  first_in_right n none f = record {
    place = length xs + f.place;
    within = omega (arith, f.within, length-append xs ys);
    is = get_or-append_right xs ys (length xs) (length xs + f.place) 0 refl (omega arith) ∙ ap (λ k. get_or ys k 0) (omega arith) ∙ f.is;
    has = f.has;
    earlier = λ j less p. elim (cases_lt j (length xs)) [
      | inl l ↦ none j 0 l (subst P (get_or_append_left xs ys 0 j l) p)
      | inr g ↦ f.earlier (j - length xs) (omega (arith, less, g)) (subst P (get_or-append_right xs ys (length xs) j 0 refl g) p)
    ];
  }

  pub first_in_both : (o : Option ℕ) → All (λ m. ¬ (P m)) xs → MatchOption o (All (λ m. ¬ (P m)) ys) (IsFirstOf P ys) → MatchOption o (All (λ m. ¬ (P m)) (xs ++ ys)) (IsFirstOf P (xs ++ ys))
  first_in_both None none h = All-append (λ m. ¬ (P m)) xs ys none h
  first_in_both (Some n) none h = first_in_right n none h
