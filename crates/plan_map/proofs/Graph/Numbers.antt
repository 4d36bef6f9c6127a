-- The numbers from one to below another as a list: its first, its elements by number, and where the first with a property stands.
use Rattle.std.proofs.Common.{◌≡◌, ℕ, suc, ◌+◌, ◌-◌, ◌<◌, ◌≤◌, ◌∷◌, get_or, All, ap, ◌∙◌, subst, sym, arith, true, eqb, Option, Some, None}
use Rattle.std.specs.List.{range_with_len}
use Rattle.std.specs.Option.{option_eq}
use Rattle.std.proofs.lemmas.Bool.{eqb-true}
use Rattle.std.proofs.lemmas.List.FromFn.{get_or-range_with_len, length-range_with_len}
use Rattle.plan_map.specs.Search.{IsFirstOf}

pub first_number : (a b : ℕ) → a < b → range_with_len a (b - a) ≡ a ∷ range_with_len (a + 1) (b - (a + 1))
first_number a b less = ap (range_with_len a) {y = suc (b - (a + 1))} (omega arith)

pub number_at : (a b k d : ℕ) → k < b - a → get_or (range_with_len a (b - a)) k d ≡ a + k
number_at a b k d less = get_or-range_with_len a (b - a) k d less

pub first_of_numbers : (P : ℕ → Type 0) (a b n : ℕ) → a ≤ n → n < b → P n → ((m : ℕ) → a ≤ m → m < n → ¬ (P m)) → IsFirstOf P (range_with_len a (b - a)) n
first_of_numbers P a b n from to has none = record {
  place = n - a;
  within = omega (arith, length-range_with_len a (b - a));
  is = number_at a b (n - a) 0 (omega arith) ∙ omega arith;
  has = has;
  earlier = λ j less p. none (a + j) (omega arith) (omega arith) (subst P (number_at a b j 0 (omega arith)) p);
}

pub none_of_numbers : (P : ℕ → Type 0) (a b : ℕ) → ((m : ℕ) → a ≤ m → m < b → ¬ (P m)) → All (λ n. ¬ (P n)) (range_with_len a (b - a))
none_of_numbers P a b none k d within p =
    let less : k < b - a = omega (arith, length-range_with_len a (b - a)) in
    none (a + k) (omega arith) (omega arith) (subst P (number_at a b k d less) p)

-- ---- a test against a number
pub some_equal : (o : Option ℕ) (n : ℕ) → true ≡ option_eq eqb o (Some n) → o ≡ Some n
some_equal None n e = absurd (cc)
some_equal (Some m) n e = ap Some (eqb-true m n (sym e))
