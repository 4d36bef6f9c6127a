-- The rows of the neighbours of all regions are rows: rising, within, and both ways.
use Rattle.std.proofs.Common.{◌≡◌, ◌⊎◌, inl, inr, ◌↔◌, ℕ, ◌+◌, ◌-◌, ◌<◌, ◌≤◌, true, List, ◌++◌, length, get_or, All, AllPairs, Contains, ◌∙◌, subst, arith}
use Rattle.std.proofs.lemmas.Bool.{and_parts, and_from, cases_lt}
use Rattle.std.proofs.Math.Bool.{or_comm}
use Rattle.std.proofs.lemmas.List.{get_or_past}
use Rattle.std.proofs.lemmas.List.FromFn.{length-range_with_len}
use Rattle.std.proofs.lemmas.List.Elements.{Contains-append_left, Contains-append_right, Contains-append_cases}
use Rattle.plan_spec.specs.Slabs.{Slabs}
use Rattle.plan_spec.specs.Regions.{Lot, cell, region_at}
use Rattle.plan_spec.specs.Neighbours.{beside, AreNeighbours}
use Rattle.plan_plane.proofs.Pairs.{Pairs, pairs_from, pairs_join, pairs_at}
use Rattle.plan_slab.specs.declared.row.Row.{Row}
use Rattle.plan_slab.specs.Ends.{AreNeighbourRows}
use Rattle.plan_slab.specs.LotOrder.{Earlier}
use Rattle.plan_slab.specs.Sides.{is_left_of, is_right_of, AreLeftOf, AreRightOf}
use Rattle.plan_slab.proofs.Regions.Sides.{left_lesser, right_greater, by_sides}
use Rattle.plan_map.specs.Row.{numbers_of, no_row, in_row, AreRows}
use Rattle.plan_map.specs.Search.{IsRow, numbers}
use Rattle.plan_map.proofs.Graph.Numbers.{number_at}
use Rattle.plan_map.proofs.Graph.Rows.{among}

rising_numbers : (a b : ℕ) → AllPairs (λ m n. m < n) (numbers a b)
rising_numbers a b i j d less within =
    let below : j < b - a = omega (arith, within, length-range_with_len a (b - a)) in
    omega (arith, number_at a b i d (omega arith), number_at a b j d below)

-- ---- the row of one region
is_row : (σ : Slabs) (found : List Lot) → ((m n : ℕ) → m < n → n < length found → Earlier (region_at found m) (region_at found n))
    → (r a b c d : ℕ) → r < length found → AreLeftOf σ found r a b → AreRightOf σ found r c d → IsRow (AreNeighbours σ found) r (numbers a b ++ numbers c d)
is_row σ found rising r a b c d hr left right = record { exact = λ n. (to n, from n); rising = λ i j e less within. pairs_at (λ m n. m < n) (numbers a b ++ numbers c d) pairs i j e less within }
  where
    to : (n : ℕ) → Contains (numbers a b ++ numbers c d) n → AreNeighbours σ found n r
    to n h = elim (Contains-append_cases (numbers a b) (numbers c d) n h) [
      | inl l ↦ let (hn, is) = (left n).0 ((among a b n).0 l) in (by_sides σ found n r).1 (hn, hr, inl is)
      | inr l ↦ let (hn, is) = (right n).0 ((among c d n).0 l) in (by_sides σ found n r).1 (hn, hr, inr is)
    ]

    from : (n : ℕ) → AreNeighbours σ found n r → Contains (numbers a b ++ numbers c d) n
    from n step = let (hn, at, is) = (by_sides σ found n r).0 step in by hn is
      where
        by : n < length found → (is_left_of σ found n r ≡ true) ⊎ (is_right_of σ found n r ≡ true) → Contains (numbers a b ++ numbers c d) n
        by hn (inl l) = Contains-append_left (numbers a b) (numbers c d) n ((among a b n).1 ((left n).1 (hn, l)))
        by hn (inr l) = Contains-append_right (numbers a b) (numbers c d) n ((among c d n).1 ((right n).1 (hn, l)))

    lesser : (n : ℕ) → a ≤ n → n < b → n < r
    lesser n low high = let (hn, is) = (left n).0 (low, high) in left_lesser σ found rising n r hn is

    greater : (n : ℕ) → c ≤ n → n < d → r < n
    greater n low high = let (hn, is) = (right n).0 (low, high) in right_greater σ found rising n r hr is

    across : All (λ m. All (λ n. m < n) (numbers c d)) (numbers a b)
    across i e within j f below =
        let hi : i < b - a = omega (arith, within, length-range_with_len a (b - a)) in
        let hj : j < d - c = omega (arith, below, length-range_with_len c (d - c)) in
        omega (arith, number_at a b i e hi, number_at c d j f hj, lesser (a + i) (omega arith) (omega arith), greater (c + j) (omega arith) (omega arith))

    pairs : Pairs (λ m n. m < n) (numbers a b ++ numbers c d)
    pairs =
        pairs_join (λ m n. m < n) (numbers a b) (numbers c d) (pairs_from (λ m n. m < n) (numbers a b) (λ i j e less within. rising_numbers a b i j e less within))
        (pairs_from (λ m n. m < n) (numbers c d) (λ i j e less within. rising_numbers c d i j e less within)) across

-- ---- neighbours
neighbour_within : (σ : Slabs) (found : List Lot) (m n : ℕ) → AreNeighbours σ found m n → m < length found
neighbour_within σ found m n step = ((by_sides σ found m n).0 step).0

pub neighbours_turned : (σ : Slabs) (found : List Lot) (m n : ℕ) → AreNeighbours σ found m n → AreNeighbours σ found n m
neighbours_turned σ found m n step =
    let u = and_parts _ _ step in
    let v = and_parts _ _ u.1 in
    and_from _ _ v.0 (and_from _ _ u.0 (or_comm (beside σ (region_at found n) (region_at found m)) (beside σ (region_at found m) (region_at found n)) ∙ v.1))

-- ---- the rows of all
module _ (σ : Slabs) (found : List Lot) (rows : List Row) (are : AreNeighbourRows σ found rows) (order : AllPairs Earlier found) where
  row_at : (n : ℕ) → n < length found → IsRow (AreNeighbours σ found) n (numbers_of (get_or rows n no_row))
  row_at n h =
      let row = get_or rows n no_row in
      is_row σ found (λ i j less within. order i j (cell 0 0) less within) n row.left.start row.left.end row.right.start row.right.end h (are.left n no_row h) (are.right n no_row h)

  -- in a row is beside
  pub agree : (m n : ℕ) → in_row rows m n ↔ AreNeighbours σ found m n
  agree m n = elim (cases_lt n (length found)) [
    | inl h ↦ (row_at n h).exact m
    | inr past ↦ (λ h. absurd (outside past h), λ step. absurd (omega (arith, neighbour_within σ found n m (neighbours_turned σ found m n step))))
  ]
    where
      outside : length found ≤ n → ¬ (in_row rows m n)
      outside past h =
          let (k, within, is) = subst (λ r. Contains (numbers_of r) m) (get_or_past rows n no_row (omega (arith, are.count))) h in
          omega arith

  pub are_rows : AreRows rows
  are_rows = record {
    within = λ m n h. omega (arith, are.count, neighbour_within σ found m n ((agree m n).0 h));
    rising = λ n h. (row_at n (omega (arith, are.count))).rising;
    both_ways = λ m n h. (agree n m).1 (neighbours_turned σ found m n ((agree m n).0 h));
  }
