-- In a row of numbers that sinks, a binary search finds a 0, or where it falls through 0.
use Rattle.std.proofs.Common.{◌≡◌, inl, inr, ℕ, suc, ◌<◌, ◌≤◌, ℤ, pos, ◌-ℤ◌, ◌*ℤ◌, ◌<ℤ◌, List, length, get_or, Option, None, Some, Result, Ok, Err, MatchOption, MatchResult, IfSome, sym, ap, ◌∙◌, subst, eq-or-lt_of_le, arith}
use Rattle.std.specs.List.Sorted.{IsBinarySearchResult, IsSearchInRange, IsNonDecreasingBy}
use Rattle.std.specs.Ordering.{ordering_index}
use Rattle.std.specs.declared.cmp.Ordering.{Ordering}
use Rattle.std.specs.declared.cmp.Ordering.TheVariants.{Less, Equal, Greater}
use Rattle.std.proofs.lemmas.Bool.{cases_order}
use Rattle.plan_exact.specs.Sign.{Sign, is_negative, is_zero, is_positive}
use Rattle.plan_exact.proofs.Laws.{linear}
use Rattle.plan_exact.proofs.Signs.{sign_of, le_of_lt, mul_pos, mul_pos_neg, mul_of_zero, pos_of_mul, neg_of_mul, zero_of_mul}
use Rattle.plan_grid.specs.Order.{IsOrder}
use Rattle.plan_slab.proofs.Regions.Falling.{Falls, DropsAt}
use Rattle.plan_map.specs.Located.{IsBetween, FallsAt}

-- what comes before a positive number is positive, and what comes after a negative one negative
abbrev pub Sinks : ℕ → (ℕ → ℤ) → Type 0
Sinks n v = (i j : ℕ) → i < j → j < n → (pos 0 <ℤ v j → pos 0 <ℤ v i) × (v i <ℤ pos 0 → v j <ℤ pos 0)

pub falls_sinks : (n : ℕ) (v : ℕ → ℤ) → Falls n v → Sinks n v
falls_sinks n v falls i j lt within = (λ h. falls i j lt within (le_of_lt h), λ h. by h (sign_of (v j)))
  where
    by : v i <ℤ pos 0 → Sign (v j) → v j <ℤ pos 0
    by h (is_negative m) = m
    by h (is_zero e) = absurd (omega (arith, linear, falls i j lt within (omega (arith, linear))))
    by h (is_positive p) = absurd (omega (arith, linear, falls i j lt within (le_of_lt p)))

-- the first i numbers are positive, and the others negative
pub record IsCut (n : ℕ) (v : ℕ → ℤ) (i : ℕ) : Type 0 where
  pub within : i ≤ n
  pub before : (k : ℕ) → k < i → pos 0 <ℤ v k
  pub from : (k : ℕ) → i ≤ k → k < n → v k <ℤ pos 0

-- where a 0 is, or where what is positive ends
abbrev pub IsFound : ℕ → (ℕ → ℤ) → Result ℕ ℕ → Type 0
IsFound n v found = MatchResult found (λ i. (i < n) × (v i ≡ pos 0)) (IsCut n v)

-- ---- it falls through 0 there alone
pub drop_cut : (n : ℕ) (v : ℕ → ℤ) (i k : ℕ) → IsCut n v i → DropsAt n v k → i ≡ suc k
drop_cut n v i k cut d = elim (cases_order i (suc k)) [
  | inl e ↦ e
  | inr o ↦ elim o [
    | inl lt ↦ absurd (omega (arith, linear, d.above, cut.from k (omega arith) (let w = d.within in omega arith)))
    | inr gt ↦ absurd (omega (arith, linear, d.below, cut.before (suc k) gt))
  ]
]

pub drop_zero : (n : ℕ) (v : ℕ → ℤ) (i k : ℕ) → Sinks n v → i < n → v i ≡ pos 0 → ¬ (DropsAt n v k)
drop_zero n v i k sinks hi e d = elim (cases_order i k) [
  | inl same ↦ absurd (omega (arith, linear, d.above, subst (λ j. v j ≡ pos 0) same e))
  | inr o ↦ elim o [
    | inl lt ↦ absurd (omega (arith, linear, e, (sinks i k lt (let w = d.within in omega arith)).0 d.above))
    | inr gt ↦ elim (cases_order (suc k) i) [
      | inl same ↦ absurd (omega (arith, linear, d.below, subst (λ j. v j ≡ pos 0) (sym same) e))
      | inr p ↦ elim p [
        | inl lt ↦ absurd (omega (arith, linear, e, (sinks (suc k) i lt hi).1 d.below))
        | inr more ↦ absurd (omega arith)
      ]
    ]
  ]
]

drop_after : (n : ℕ) (v : ℕ → ℤ) (k h : ℕ) → Sinks n v → k < h → DropsAt n v k → DropsAt n v h → ⊥
drop_after n v k h sinks lt d e = elim (cases_order (suc k) h) [
  | inl same ↦ absurd (omega (arith, linear, d.below, subst (λ j. pos 0 <ℤ v j) (sym same) e.above))
  | inr o ↦ elim o [
    | inl less ↦ absurd (omega (arith, linear, e.above, (sinks (suc k) h less (let w = e.within in omega arith)).1 d.below))
    | inr more ↦ absurd (omega arith)
  ]
]

pub drop_once : (n : ℕ) (v : ℕ → ℤ) (k h : ℕ) → Sinks n v → DropsAt n v k → DropsAt n v h → k ≡ h
drop_once n v k h sinks d e = elim (cases_order k h) [
  | inl same ↦ same
  | inr o ↦ elim o [
    | inl lt ↦ absurd (drop_after n v k h sinks lt d e)
    | inr gt ↦ absurd (drop_after n v h k sinks gt e d)
  ]
]

-- the place before that of an insertion
pub drop_found : (n : ℕ) (v : ℕ → ℤ) (found : Result ℕ ℕ) (at : Option ℕ) → Sinks n v → IsFound n v found → MatchOption at ((k : ℕ) → ¬ (IsBetween n found k)) (IsBetween n found) → FallsAt n v at
drop_found n v found (Some k) sinks is between =
    let cut : IsCut n v (suc k) = subst (IsFound n v) between.1 is in
    record { within = between.0; above = cut.before k (omega arith); below = cut.from (suc k) (omega arith) between.0 }
drop_found n v (Ok i) None sinks is between = λ k d. drop_zero n v i k sinks is.0 is.1 d
drop_found n v (Err i) None sinks is between = λ k d. between k (d.within, ap Err (drop_cut n v i k is d))

-- ---- what a binary search finds
-- the order of each of the list is that of 0 to its number in the row
abbrev pub IsRowOf : {X : Type 0} → (X → Ordering) → List X → (ℕ → ℤ) → Type 0
IsRowOf {X} order xs v = (k : ℕ) (d : X) → k < length xs → IsOrder (order (get_or xs k d)) (pos 0) (v k)

order_rises : (o p : Ordering) (a b : ℤ) → IsOrder o (pos 0) a → IsOrder p (pos 0) b → (pos 0 <ℤ b → pos 0 <ℤ a) × (a <ℤ pos 0 → b <ℤ pos 0) → ordering_index o ≤ ordering_index p
order_rises Less p a b h k sinks = omega arith
order_rises Equal Less a b h k sinks = absurd (omega (arith, linear, h, sinks.0 k))
order_rises Equal Equal a b h k sinks = omega arith
order_rises Equal Greater a b h k sinks = omega arith
order_rises Greater Less a b h k sinks = absurd (omega (arith, linear, h, sinks.0 k))
order_rises Greater Equal a b h k sinks = absurd (omega (arith, linear, k, sinks.1 h))
order_rises Greater Greater a b h k sinks = omega arith

module _ {X : Type 0} (order : X → Ordering) (xs : List X) (v : ℕ → ℤ) (x : X) (row : IsRowOf order xs v) (sinks : Sinks (length xs) v) where
  rises : IsNonDecreasingBy (λ y. ordering_index (order y)) xs
  rises i j d le within = elim (eq-or-lt_of_le le) [
    | inl e ↦ (let f = ap (λ k. ordering_index (order (get_or xs k d))) e in omega (arith, f))
    | inr lt ↦ order_rises (order (get_or xs i d)) (order (get_or xs j d)) (v i) (v j) (row i d (omega arith)) (row j d within) (sinks i j lt within)
  ]

  pub searched : (found : Result ℕ ℕ) → IsSearchInRange found (length xs) → IsBinarySearchResult order xs found → IsFound (length xs) v found
  searched (Ok i) within is = (within, sym (subst (λ o. IsOrder o (pos 0) (v i)) (is x) (row i x within)))
  searched (Err i) within is =
      let parted = is rises in
      record {
        within = within;
        before = λ k lt. subst (λ o. IsOrder o (pos 0) (v k)) (parted.0 k x (omega arith) lt) (row k x (omega arith));
        from = λ k le lt. subst (λ o. IsOrder o (pos 0) (v k)) (parted.1 k x le lt) (row k x lt);
      }

-- the same where the row is known to be as long
pub row_found : {X : Type 0} (order : X → Ordering) (xs : List X) (v : ℕ → ℤ) (x : X) (n : ℕ) → n ≡ length xs → IsRowOf order xs v → Sinks n v → (found : Result ℕ ℕ) → IsSearchInRange found (length xs) → IsBinarySearchResult order xs found → IsFound n v found
row_found order xs v x n e row sinks found range result =
    subst (λ n. IsFound n v found) (sym e) (searched order xs v x row (subst (λ n. Sinks n v) e sinks) found range result)

-- both neighbours of the place are there
pub there : (n count : ℕ) (found : Result ℕ ℕ) (at : Option ℕ) → n ≡ count → MatchOption at ((k : ℕ) → ¬ (IsBetween count found k)) (IsBetween count found) → IfSome at (λ k. suc k < n)
there n count found None e between = tt
there n count found (Some k) e between = omega (arith, e, between.0)

-- ---- an order of two numbers is that of 0 to their difference, also times positive factors
pub order_scaled : (o : Ordering) (a b s t c : ℤ) → IsOrder o a b → pos 0 <ℤ s → pos 0 <ℤ t → s *ℤ c ≡ t *ℤ (b -ℤ a) → IsOrder o (pos 0) c
order_scaled Less a b s t c h hs ht e = let d : pos 0 <ℤ (b -ℤ a) = omega (arith, linear) in pos_of_mul hs (omega (arith, linear, e, mul_pos ht d))
order_scaled Equal a b s t c h hs ht e = let d : b -ℤ a ≡ pos 0 = omega (arith, linear) in sym (zero_of_mul s c hs (e ∙ mul_of_zero t (b -ℤ a) d))
order_scaled Greater a b s t c h hs ht e = let d : (b -ℤ a) <ℤ pos 0 = omega (arith, linear) in neg_of_mul hs (omega (arith, linear, e, mul_pos_neg ht d))
