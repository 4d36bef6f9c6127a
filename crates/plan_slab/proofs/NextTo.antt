-- The neighbours of a cell or a wall have keys in one range.
use Rattle.std.proofs.Common.{◌≡◌, ◌↔◌, inl, inr, ℕ, suc, ◌+◌, ◌-◌, ◌<◌, ◌≤◌, Bool, true, false, ◌||◌, ◌&&◌, eqb, leb, leb-true, leb-false, ltb-true, List, [], length, get_or, All, refl, sym, ap, ◌∙◌, subst, ⊎_elim, zero, eq-or-lt_of_le, arith}
use Rattle.std.specs.List.Sorted.{IsNonDecreasingBy, IsPartitionPoint}
use Rattle.std.proofs.lemmas.Bool.{and_parts, and_from, eq-eqb, eqb-true, le-leb, lt-ltb, cases_lt}
use Rattle.plan_spec.specs.Slabs.{Slabs, spans_of, span_at, marks_of}
use Rattle.plan_spec.specs.Regions.{Lot, cell, wall, IsLot, region_at}
use Rattle.plan_spec.specs.Neighbours.{on_left, on_right, in_range, in_left, in_right}
use Rattle.plan_slab.specs.declared.row.Row.{Row}
use Rattle.plan_slab.specs.Ends.{AreTabled, AreNeighbourRows}
use Rattle.plan_slab.specs.LotKeys.{key, AreBetween}
use Rattle.plan_slab.specs.LotOrder.{index}
use Rattle.plan_slab.specs.NextTo.{IsPast, AreInRightOf, AreInLeftOf, IsRowOf}
use Rattle.plan_slab.proofs.MarkNumbers.{meets_within}
use Rattle.plan_slab.proofs.OneByOne.{HasEach}

or_false : (t : Bool) → t || false ≡ t
or_false true = refl
or_false false = refl

-- ---- walls of a line
-- whether it is the wall above mark j of line k, with a ≤ j < b
abbrev is_wall_in : ℕ → ℕ → ℕ → Lot → Bool
is_wall_in k a b (wall n j) = eqb n k && in_range a b j
is_wall_in k a b (cell n i) = false

walls_in : (k a b : ℕ) (lot : Lot) → b ≤ 131072 → index lot < 131072 → (is_wall_in k a b lot ≡ true) ↔ ((key (wall k a) ≤ key lot) × (key lot < key (wall k b)))
walls_in k a b (wall n j) few small = (to, from)
  where
    to : eqb n k && in_range a b j ≡ true → (key (wall k a) ≤ key (wall n j)) × (key (wall n j) < key (wall k b))
    to e =
        let (same, within) = and_parts _ _ e in
        let (low, high) = and_parts _ _ within in
        let f = eqb-true n k same in
        let l = leb-true a j low in
        let h = ltb-true j b high in
        (omega (arith, f, l), omega (arith, f, h))

    from : (key (wall k a) ≤ key (wall n j)) × (key (wall n j) < key (wall k b)) → eqb n k && in_range a b j ≡ true
    from h =
        let f : n ≡ k = omega (arith, h.0, h.1, few, small) in
        and_from _ _ (eq-eqb n k f) (and_from _ _ (le-leb a j (omega (arith, h.0, f))) (lt-ltb j b (omega (arith, h.1, f))))
walls_in k a b (cell n i) few small = (λ e. absurd (cc), λ h. absurd (omega (arith, h.0, h.1, few, small)))

-- ---- cells of a slab
abbrev is_cell_in : ℕ → ℕ → ℕ → Lot → Bool
is_cell_in k a b (cell n i) = eqb n k && in_range a b i
is_cell_in k a b (wall n j) = false

cells_in : (k a b : ℕ) (lot : Lot) → b ≤ 131072 → index lot < 131072 → (is_cell_in k a b lot ≡ true) ↔ ((key (cell k a) ≤ key lot) × (key lot < key (cell k b)))
cells_in k a b (cell n j) few small = (to, from)
  where
    to : eqb n k && in_range a b j ≡ true → (key (cell k a) ≤ key (cell n j)) × (key (cell n j) < key (cell k b))
    to e =
        let (same, within) = and_parts _ _ e in
        let (low, high) = and_parts _ _ within in
        let f = eqb-true n k same in
        let l = leb-true a j low in
        let h = ltb-true j b high in
        (omega (arith, f, l), omega (arith, f, h))

    from : (key (cell k a) ≤ key (cell n j)) × (key (cell n j) < key (cell k b)) → eqb n k && in_range a b j ≡ true
    from h =
        let f : n ≡ k = omega (arith, h.0, h.1, few, small) in
        and_from _ _ (eq-eqb n k f) (and_from _ _ (le-leb a j (omega (arith, h.0, f))) (lt-ltb j b (omega (arith, h.1, f))))
cells_in k a b (wall n i) few small = (λ e. absurd (cc), λ h. absurd (omega (arith, h.0, h.1, few, small)))

-- ---- the last of a row that is not past a limit
pub between_past : (value : ℕ × ℕ → ℕ) (row : List (ℕ × ℕ)) (j p i : ℕ) (d : ℕ × ℕ) → IsPast value row j p → suc i < length row → (in_range (value (get_or row i d)) (value (get_or row (suc i) d)) j ≡ true) ↔ (in_range (p - 1) p i ≡ true)
between_past value row j p i d past within = (to, from)
  where
    to : in_range (value (get_or row i d)) (value (get_or row (suc i) d)) j ≡ true → in_range (p - 1) p i ≡ true
    to e =
        let (low, high) = and_parts _ _ e in
        let l = leb-true _ j low in
        let h = ltb-true j _ high in
        let before : i < p = elim (cases_lt i p) [ inl less ↦ less | inr more ↦ absurd (omega (arith, l, past.from i d more (omega (arith, within)))) ] in
        let after : p ≤ suc i = elim (cases_lt (suc i) p) [ inl less ↦ absurd (omega (arith, h, past.before (suc i) d less)) | inr more ↦ more ] in
        and_from _ _ (le-leb (p - 1) i (omega (arith, after))) (lt-ltb i p before)

    from : in_range (p - 1) p i ≡ true → in_range (value (get_or row i d)) (value (get_or row (suc i) d)) j ≡ true
    from e =
        let (low, high) = and_parts _ _ e in
        let l = leb-true (p - 1) i low in
        let h = ltb-true i p high in
        and_from _ _ (le-leb _ j (past.before i d h)) (lt-ltb j _ (past.from (suc i) d (omega (arith, l)) within))

pub past_of : (value : ℕ × ℕ → ℕ) (row : List (ℕ × ℕ)) (limit n : ℕ) → n ≤ length row → IsPartitionPoint (λ e. leb (value e) limit ≡ true) (λ e. leb (value e) limit ≡ false) row n → IsPast value row limit n
past_of value row limit n bound p = record {
  within = bound;
  before = λ i d less. leb-true _ limit (p.0 i d (omega arith) less);
  from = λ i d more within. leb-false _ limit (p.1 i d more within);
}

-- ---- what never falls from one to the next
pub climb : (f : ℕ → ℕ) (n : ℕ) → ((i : ℕ) → suc i < n → f i ≤ f (suc i)) → (i j : ℕ) → i ≤ j → j < n → f i ≤ f j
climb f n step i zero le within = let e : i ≡ 0 = omega arith in omega (arith, ap f e)
climb f n step i (suc j) le within = ⊎_elim (λ e. omega (arith, ap f e)) (λ lt. omega (arith, climb f n step i j (omega arith) (omega arith), step j within)) (eq-or-lt_of_le le)

-- ---- by the table
module _ {σ : Slabs} {found : List Lot} {table : List (List (ℕ × ℕ))} (h : AreTabled σ found table) where
  pub small_index : (lot : Lot) → IsLot σ lot → index lot < 131072
  small_index (cell k i) is = omega (arith, is.1, h.few_spans k)
  small_index (wall k j) is = omega (arith, is.1, h.few_marks k)

  pub small_indices : All (λ lot. index lot < 131072) found
  small_indices n d within = small_index (get_or found n d) (h.lots n d within)

  at : (n : ℕ) → n < length found → index (region_at found n) < 131072
  at n within = small_indices n (cell 0 0) within

  -- a range of keys is what a test tells
  by_test : (test : Lot → Bool) (low high a b : ℕ) → ((lot : Lot) → IsLot σ lot → index lot < 131072 → (test lot ≡ true) ↔ ((low ≤ key lot) × (key lot < high))) → AreBetween found low high a b
      → (n : ℕ) → ((a ≤ n) × (n < b)) ↔ ((n < length found) × (test (region_at found n) ≡ true))
  by_test test low high a b same range n = (
    λ r. let k = (range n).0 r in (k.0, (same (region_at found n) (h.lots n (cell 0 0) k.0) (at n k.0)).1 (k.1, k.2)),
    λ t. let k = (same (region_at found n) (h.lots n (cell 0 0) t.0) (at n t.0)).0 t.1 in (range n).1 (t.0, k.0, k.1),
  )

  pub walls_on_left : (k i : ℕ) (a b : ℕ) → AreBetween found (key (wall k (on_left σ k i))) (key (wall k (on_left σ k (suc i)))) a b
      → (n : ℕ) → ((a ≤ n) × (n < b)) ↔ ((n < length found) × (in_left σ (region_at found n) (cell k i) || in_right σ (cell k i) (region_at found n) ≡ true))
  walls_on_left k i a b = by_test (λ lot. in_left σ lot (cell k i) || in_right σ (cell k i) lot) (key (wall k (on_left σ k i))) (key (wall k (on_left σ k (suc i)))) a b (λ lot is small. subst (λ t. (t ≡ true) ↔ ((key (wall k (on_left σ k i)) ≤ key lot) × (key lot < key (wall k (on_left σ k (suc i)))))) (sym (same lot)) (walls_in k (on_left σ k i) (on_left σ k (suc i)) lot (few (suc i)) small))
    where
      few : (i : ℕ) → on_left σ k i ≤ 131072
      few i = omega (arith, meets_within (span_at σ k i) (marks_of σ k), h.few_marks k)

      same : (lot : Lot) → in_left σ lot (cell k i) || in_right σ (cell k i) lot ≡ is_wall_in k (on_left σ k i) (on_left σ k (suc i)) lot
      same (cell n j) = refl
      same (wall n j) = or_false (eqb n k && in_range (on_left σ k i) (on_left σ k (suc i)) j)

  pub walls_on_right : (k i : ℕ) (a b : ℕ) → AreBetween found (key (wall (suc k) (on_right σ k i))) (key (wall (suc k) (on_right σ k (suc i)))) a b
      → (n : ℕ) → ((a ≤ n) × (n < b)) ↔ ((n < length found) × (in_right σ (region_at found n) (cell k i) || in_left σ (cell k i) (region_at found n) ≡ true))
  walls_on_right k i a b = by_test (λ lot. in_right σ lot (cell k i) || in_left σ (cell k i) lot) (key (wall (suc k) (on_right σ k i))) (key (wall (suc k) (on_right σ k (suc i)))) a b (λ lot is small. subst (λ t. (t ≡ true) ↔ ((key (wall (suc k) (on_right σ k i)) ≤ key lot) × (key lot < key (wall (suc k) (on_right σ k (suc i)))))) (sym (same lot)) (walls_in (suc k) (on_right σ k i) (on_right σ k (suc i)) lot (few (suc i)) small))
    where
      few : (i : ℕ) → on_right σ k i ≤ 131072
      few i = omega (arith, meets_within (span_at σ k i) (marks_of σ (suc k)), h.few_marks (suc k))

      same : (lot : Lot) → in_right σ lot (cell k i) || in_left σ (cell k i) lot ≡ is_wall_in (suc k) (on_right σ k i) (on_right σ k (suc i)) lot
      same (cell n j) = refl
      same (wall n j) = or_false (eqb n (suc k) && in_range (on_right σ k i) (on_right σ k (suc i)) j)

  -- ---- a row of the table
  module _ (k : ℕ) (hk : k < length σ.spans) where
    row_length : length (get_or table k []) ≡ length (spans_of σ k)
    row_length = h.ends.span_count k hk

    pub few_in_row : length (get_or table k []) ≤ 131072
    few_in_row = omega (arith, row_length, h.few_spans k)

    pub lefts_rise : IsNonDecreasingBy (λ e. e.0) (get_or table k [])
    lefts_rise i j d le within =
        omega (arith, h.ends.left k i d hk (omega (arith, le, within, row_length)), h.ends.left k j d hk (omega (arith, within, row_length)), climb (on_left σ k) (length (spans_of σ k)) (h.order.on_left_rises k) i j le (omega (arith, within, row_length)))

    pub rights_rise : IsNonDecreasingBy (λ e. e.1) (get_or table k [])
    rights_rise i j d le within =
        omega (arith, h.ends.right k i d hk (omega (arith, le, within, row_length)), h.ends.right k j d hk (omega (arith, within, row_length)), climb (on_right σ k) (length (spans_of σ k)) (h.order.on_right_rises k) i j le (omega (arith, within, row_length)))

    module _ (j p : ℕ) where
      -- the cell of the slab that has a mark between its marks on the left, or on the right
      left_range : IsPast (λ e. e.0) (get_or table k []) j p → (n i : ℕ) → n ≡ k → suc i < length (spans_of σ n) → (in_range (on_left σ n i) (on_left σ n (suc i)) j ≡ true) ↔ (in_range (p - 1) p i ≡ true)
      left_range past n i e = subst (λ n. suc i < length (spans_of σ n) → (in_range (on_left σ n i) (on_left σ n (suc i)) j ≡ true) ↔ (in_range (p - 1) p i ≡ true)) (sym e)
          (λ within. subst (λ a. (in_range a (on_left σ k (suc i)) j ≡ true) ↔ (in_range (p - 1) p i ≡ true)) (h.ends.left k i (0, 0) hk (omega (arith, within)))
          (subst (λ b. (in_range (get_or (get_or table k []) i (0, 0)).0 b j ≡ true) ↔ (in_range (p - 1) p i ≡ true)) (h.ends.left k (suc i) (0, 0) hk within) (between_past (λ e. e.0) (get_or table k []) j p i (0, 0) past (omega (arith, within, row_length)))))

      right_range : IsPast (λ e. e.1) (get_or table k []) j p → (n i : ℕ) → n ≡ k → suc i < length (spans_of σ n) → (in_range (on_right σ n i) (on_right σ n (suc i)) j ≡ true) ↔ (in_range (p - 1) p i ≡ true)
      right_range past n i e = subst (λ n. suc i < length (spans_of σ n) → (in_range (on_right σ n i) (on_right σ n (suc i)) j ≡ true) ↔ (in_range (p - 1) p i ≡ true)) (sym e)
          (λ within. subst (λ a. (in_range a (on_right σ k (suc i)) j ≡ true) ↔ (in_range (p - 1) p i ≡ true)) (h.ends.right k i (0, 0) hk (omega (arith, within)))
          (subst (λ b. (in_range (get_or (get_or table k []) i (0, 0)).1 b j ≡ true) ↔ (in_range (p - 1) p i ≡ true)) (h.ends.right k (suc i) (0, 0) hk within) (between_past (λ e. e.1) (get_or table k []) j p i (0, 0) past (omega (arith, within, row_length)))))

      small_past : (value : ℕ × ℕ → ℕ) → IsPast value (get_or table k []) j p → p ≤ 131072
      small_past value past = omega (arith, past.within, few_in_row)

      pub cells_on_right : (a b : ℕ) → IsPast (λ e. e.0) (get_or table k []) j p → AreBetween found (key (cell k (p - 1))) (key (cell k p)) a b → AreInLeftOf σ found (wall k j) a b
      cells_on_right a b past = by_test (in_left σ (wall k j)) (key (cell k (p - 1))) (key (cell k p)) a b same
        where
          same : (lot : Lot) → IsLot σ lot → index lot < 131072 → (in_left σ (wall k j) lot ≡ true) ↔ ((key (cell k (p - 1)) ≤ key lot) × (key lot < key (cell k p)))
          same (wall n i) is small = cells_in k (p - 1) p (wall n i) (small_past (λ e. e.0) past) small
          same (cell n i) is small =
              let keys = cells_in k (p - 1) p (cell n i) (small_past (λ e. e.0) past) small in (
                λ e. let (f, r) = and_parts _ _ e in let g = sym (eqb-true k n f) in keys.0 (and_from _ _ (eq-eqb n k g) ((left_range past n i g is.1).0 r)),
                λ q. let (f, r) = and_parts _ _ (keys.1 q) in let g = eqb-true n k f in and_from _ _ (eq-eqb k n (sym g)) ((left_range past n i g is.1).1 r),
              )

      pub cells_on_left : (line a b : ℕ) → line ≡ suc k → IsPast (λ e. e.1) (get_or table k []) j p → AreBetween found (key (cell k (p - 1))) (key (cell k p)) a b → AreInRightOf σ found (wall line j) a b
      cells_on_left line a b next past = by_test (in_right σ (wall line j)) (key (cell k (p - 1))) (key (cell k p)) a b same
        where
          same : (lot : Lot) → IsLot σ lot → index lot < 131072 → (in_right σ (wall line j) lot ≡ true) ↔ ((key (cell k (p - 1)) ≤ key lot) × (key lot < key (cell k p)))
          same (wall n i) is small = cells_in k (p - 1) p (wall n i) (small_past (λ e. e.1) past) small
          same (cell n i) is small =
              let keys = cells_in k (p - 1) p (cell n i) (small_past (λ e. e.1) past) small in (
                λ e. let t = and_parts _ _ e in let f = eqb-true line (suc n) t.0 in let g : n ≡ k = omega (arith, f, next) in keys.0 (and_from _ _ (eq-eqb n k g) ((right_range past n i g is.1).0 t.1)),
                λ q. let (f, r) = and_parts _ _ (keys.1 q) in let g = eqb-true n k f in and_from _ _ (eq-eqb line (suc n) (omega (arith, g, next))) ((right_range past n i g is.1).1 r),
              )

-- ---- both sides of a wall
pub wall_row : (σ : Slabs) (found : List Lot) (k j : ℕ) (row : Row) → AreInRightOf σ found (wall k j) row.left.start row.left.end → AreInLeftOf σ found (wall k j) row.right.start row.right.end → IsRowOf σ found (wall k j) row
wall_row σ found k j row on_left on_right = record {
  left = λ n. subst (λ t. ((row.left.start ≤ n) × (n < row.left.end)) ↔ ((n < length found) × (t ≡ true))) (sym (ap (λ t. t || in_right σ (wall k j) (region_at found n)) (not_left (region_at found n)))) (on_left n);
  right = λ n. subst (λ t. ((row.right.start ≤ n) × (n < row.right.end)) ↔ ((n < length found) × (t ≡ true))) (sym (ap (λ t. t || in_left σ (wall k j) (region_at found n)) (not_right (region_at found n)))) (on_right n);
}
  where
    not_left : (lot : Lot) → in_left σ lot (wall k j) ≡ false
    not_left (cell n i) = refl
    not_left (wall n i) = refl

    not_right : (lot : Lot) → in_right σ lot (wall k j) ≡ false
    not_right (cell n i) = refl
    not_right (wall n i) = refl

-- ---- both sides of a cell, by the marks that its spans meet
pub cell_row : {σ : Slabs} {found : List Lot} {table : List (List (ℕ × ℕ))} (h : AreTabled σ found table) (k i : ℕ) (low high : ℕ × ℕ) (row : Row) → IsLot σ (cell k i) → low ≡ get_or (get_or table k []) i low → high ≡ get_or (get_or table k []) (i + 1) high
    → AreBetween found (key (wall k low.0)) (key (wall k high.0)) row.left.start row.left.end → AreBetween found (key (wall (k + 1) low.1)) (key (wall (k + 1) high.1)) row.right.start row.right.end → IsRowOf σ found (cell k i) row
cell_row {σ} {found} {table} h k i low high row (hk, hi) el eh on_left_side on_right_side = record {
  left = walls_on_left h k i row.left.start row.left.end (subst (λ m. AreBetween found (key (wall k m)) (key (wall k (on_left σ k (suc i)))) row.left.start row.left.end) low_left (subst (λ m. AreBetween found (key (wall k low.0)) (key (wall k m)) row.left.start row.left.end) high_left on_left_side));
  right = walls_on_right h k i row.right.start row.right.end (subst (λ m. AreBetween found (key (wall (suc k) m)) (key (wall (suc k) (on_right σ k (suc i)))) row.right.start row.right.end) low_right
      (subst (λ m. AreBetween found (key (wall (suc k) low.1)) (key (wall (suc k) m)) row.right.start row.right.end) high_right (subst (λ n. AreBetween found (key (wall n low.1)) (key (wall n high.1)) row.right.start row.right.end) next_line on_right_side)));
}
  where
    next : i + 1 ≡ suc i
    next = omega arith

    next_line : k + 1 ≡ suc k
    next_line = omega arith

    upper : high ≡ get_or (get_or table k []) (suc i) high
    upper = eh ∙ ap (λ j. get_or (get_or table k []) j high) next

    low_left : low.0 ≡ on_left σ k i
    low_left = ap (λ (p : ℕ × ℕ). p.0) el ∙ h.ends.left k i low hk (omega (arith, hi))

    high_left : high.0 ≡ on_left σ k (suc i)
    high_left = ap (λ (p : ℕ × ℕ). p.0) upper ∙ h.ends.left k (suc i) high hk hi

    low_right : low.1 ≡ on_right σ k i
    low_right = ap (λ (p : ℕ × ℕ). p.1) el ∙ h.ends.right k i low hk (omega (arith, hi))

    high_right : high.1 ≡ on_right σ k (suc i)
    high_right = ap (λ (p : ℕ × ℕ). p.1) upper ∙ h.ends.right k (suc i) high hk hi

-- ---- all regions
abbrev pub IsRowAt : List Lot → List (List (ℕ × ℕ)) → ℕ → Row → Type 0
IsRowAt found table n row = (σ : Slabs) → AreTabled σ found table → IsRowOf σ found (region_at found n) row

pub are_rows : (σ : Slabs) (found : List Lot) (table : List (List (ℕ × ℕ))) (i : ℕ) (rows : List Row) → AreTabled σ found table → i ≡ length found → HasEach (IsRowAt found table) i rows → AreNeighbourRows σ found rows
are_rows σ found table i rows h e each = record {
  count = each.count ∙ e;
  left = λ n d within. (each.each n d (omega (arith, within, e)) σ h).left;
  right = λ n d within. (each.each n d (omega (arith, within, e)) σ h).right;
}
