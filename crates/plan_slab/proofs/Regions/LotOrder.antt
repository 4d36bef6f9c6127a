-- The list of all lots: each cell and each wall right of the first line is in it, and none twice, since they come by rising numbers.
use Rattle.std.proofs.Common.{◌≡◌, ◌⊎◌, inl, inr, ℕ, zero, suc, ◌+◌, ◌*◌, ◌-◌, ◌<◌, ◌≤◌, List, ◌++◌, length, map, get_or, All, Any, refl, sym, ap, ◌∙◌, subst, arith}
use Rattle.std.specs.List.{flat_map, range_with_len}
use Rattle.std.proofs.lemmas.List.Elements.{All-append, All-weaker}
use Rattle.std.proofs.lemmas.List.FromFn.{get_or-range_with_len, length-range_with_len, get_or-map-range_with_len, length-map-range_with_len}
use Rattle.plan_spec.specs.Slabs.{Slabs, spans_of, marks_of}
use Rattle.plan_spec.specs.Regions.{Lot, cell, wall, cells, walls, lots}
use Rattle.plan_slab.specs.LotOrder.{rank, index, Earlier}
use Rattle.plan_plane.proofs.Lists.{any_left, any_right, any_flat, all_flat}
use Rattle.plan_plane.proofs.Pairs.{Pairs, pairs_from, pairs_join}

-- ---- the order
pub differs : {a b : Lot} → Earlier a b → ¬ (a ≡ b)
differs {a} {b} h e = by h.earlier
  where
    r : rank a ≡ rank b
    r = ap rank e

    i : index a ≡ index b
    i = ap index e

    by : (rank a < rank b) ⊎ ((rank a ≡ rank b) × (index a < index b)) → ⊥
    by (inl lt) = omega (arith, r)
    by (inr lt) = omega (arith, lt.1, i)

pub not_both : {a b : Lot} → Earlier a b → ¬ (Earlier b a)
not_both {a} {b} h k = by h.earlier k.earlier
  where
    by : (rank a < rank b) ⊎ ((rank a ≡ rank b) × (index a < index b)) → (rank b < rank a) ⊎ ((rank b ≡ rank a) × (index b < index a)) → ⊥
    by (inl p) (inl q) = omega (arith, p, q)
    by (inl p) (inr q) = omega (arith, p, q.0)
    by (inr p) (inl q) = omega (arith, p.0, q)
    by (inr p) (inr q) = omega (arith, p.1, q.1)

-- ---- lots of one rank
row_all : (P : Lot → Type 0) (f : ℕ → Lot) (n : ℕ) → ((i : ℕ) → i < n → P (f i)) → All P (map f (range_with_len 0 n))
row_all P f n h i d within =
    let below : i < n = subst (λ m. i < m) (length-map-range_with_len f 0 n) within in
    subst P (sym (get_or-map-range_with_len f 0 n i i d below (omega arith))) (h i below)

row_rises : (f : ℕ → Lot) (n : ℕ) → ((i j : ℕ) → i < j → Earlier (f i) (f j)) → Pairs Earlier (map f (range_with_len 0 n))
row_rises f n h = pairs_from Earlier (map f (range_with_len 0 n)) two
  where
    two : (i j : ℕ) (d : Lot) → i < j → j < length (map f (range_with_len 0 n)) → Earlier (get_or (map f (range_with_len 0 n)) i d) (get_or (map f (range_with_len 0 n)) j d)
    two i j d less within =
        let below : j < n = subst (λ m. j < m) (length-map-range_with_len f 0 n) within in
        subst (λ a. Earlier a (get_or (map f (range_with_len 0 n)) j d)) (sym (get_or-map-range_with_len f 0 n i i d (omega arith) (omega arith)))
        (subst (Earlier (f i)) (sym (get_or-map-range_with_len f 0 n j j d below (omega arith))) (h i j less))

-- ---- a slab's cells and the walls on its right
abbrev block : Slabs → ℕ → List Lot
block σ k = cells σ k ++ walls σ (suc k)

abbrev Within : ℕ → Lot → Type 0
Within k a = (2 * k + 1 ≤ rank a) × (rank a ≤ 2 * k + 2)

module _ (σ : Slabs) where
  block_within : (k : ℕ) → All (Within k) (block σ k)
  block_within k =
      All-append (Within k) (cells σ k) (walls σ (suc k)) (row_all (Within k) (cell k) (length (spans_of σ k) - 1) (λ i within. (omega arith, omega arith)))
      (row_all (Within k) (wall (suc k)) (length (marks_of σ (suc k)) - 1) (λ i within. (omega arith, omega arith)))

  block_rises : (k : ℕ) → Pairs Earlier (block σ k)
  block_rises k =
      pairs_join Earlier (cells σ k) (walls σ (suc k)) (row_rises (cell k) (length (spans_of σ k) - 1) (λ i j less. record { earlier = inr (refl, less) })) (row_rises (wall (suc k)) (length (marks_of σ (suc k)) - 1) (λ i j less. record { earlier = inr (refl, less) }))
      (row_all (λ a. All (Earlier a) (walls σ (suc k))) (cell k) (length (spans_of σ k) - 1) (λ i within. row_all (Earlier (cell k i)) (wall (suc k)) (length (marks_of σ (suc k)) - 1) (λ j below. record { earlier = inl (omega arith) })))

  beyond : (k n : ℕ) → All (λ a. 2 * k + 1 ≤ rank a) (flat_map (block σ) (range_with_len k n))
  beyond k n = all_flat (λ a. 2 * k + 1 ≤ rank a) (block σ) (range_with_len k n) each
    where
      each : All (λ j. All (λ a. 2 * k + 1 ≤ rank a) (block σ j)) (range_with_len k n)
      each i d within =
          let e = get_or-range_with_len k n i d (subst (λ m. i < m) (length-range_with_len k n) within) in
          subst (λ j. All (λ a. 2 * k + 1 ≤ rank a) (block σ j)) (sym e) (All-weaker (Within (k + i)) (λ a. 2 * k + 1 ≤ rank a) (λ a h. omega (arith, h.0)) (block σ (k + i)) (block_within (k + i)))

  rise_from : (k n : ℕ) → Pairs Earlier (flat_map (block σ) (range_with_len k n))
  rise_from k zero = tt
  rise_from k (suc n) =
      pairs_join Earlier (block σ k) (flat_map (block σ) (range_with_len (k + 1) n)) (block_rises k) (rise_from (k + 1) n)
      (All-weaker (Within k) (λ a. All (Earlier a) (flat_map (block σ) (range_with_len (k + 1) n)))
      (λ a h. All-weaker (λ b. 2 * (k + 1) + 1 ≤ rank b) (Earlier a) (λ b g. record { earlier = inl (omega (arith, h.1)) }) (flat_map (block σ) (range_with_len (k + 1) n)) (beyond (k + 1) n)) (block σ k) (block_within k))

  pub lots_rise : Pairs Earlier (lots σ)
  lots_rise = rise_from 0 (length σ.spans)

  -- ---- which are in it
  pub all_lots : (P : Lot → Type 0) → ((k i : ℕ) → k < length σ.spans → suc i < length (spans_of σ k) → P (cell k i)) → ((k j : ℕ) → k < length σ.spans → suc j < length (marks_of σ (suc k)) → P (wall (suc k) j)) → All P (lots σ)
  all_lots P of_cell of_wall = all_flat P (block σ) (range_with_len 0 (length σ.spans)) each
    where
      each : All (λ k. All P (block σ k)) (range_with_len 0 (length σ.spans))
      each k d within =
          let below : k < length σ.spans = subst (λ m. k < m) (length-range_with_len 0 (length σ.spans)) within in
          let e : get_or (range_with_len 0 (length σ.spans)) k d ≡ k = get_or-range_with_len 0 (length σ.spans) k d below ∙ omega arith in
          subst (λ j. All P (block σ j)) (sym e)
          (All-append P (cells σ k) (walls σ (suc k)) (row_all P (cell k) (length (spans_of σ k) - 1) (λ i less. of_cell k i below (omega arith)))
          (row_all P (wall (suc k)) (length (marks_of σ (suc k)) - 1) (λ j less. of_wall k j below (omega arith))))

  in_row : (f : ℕ → Lot) (n i : ℕ) → i < n → Any (λ a. a ≡ f i) (map f (range_with_len 0 n))
  in_row f n i within = (i, f i, subst (λ m. i < m) (sym (length-map-range_with_len f 0 n)) within, get_or-map-range_with_len f 0 n i i (f i) within (omega arith), refl)

  in_block : (a : Lot) (k : ℕ) → k < length σ.spans → Any (λ b. b ≡ a) (block σ k) → Any (λ b. b ≡ a) (lots σ)
  in_block a k within h = any_flat (λ b. b ≡ a) (block σ) (range_with_len 0 (length σ.spans)) (k, k, subst (λ m. k < m) (sym (length-range_with_len 0 (length σ.spans))) within, get_or-range_with_len 0 (length σ.spans) k k within ∙ omega arith, h)

  pub cell_listed : (k i : ℕ) → k < length σ.spans → suc i < length (spans_of σ k) → Any (λ b. b ≡ cell k i) (lots σ)
  cell_listed k i within below = in_block (cell k i) k within (any_left (λ b. b ≡ cell k i) (cells σ k) (walls σ (suc k)) (in_row (cell k) (length (spans_of σ k) - 1) i (omega arith)))

  pub wall_listed : (k i : ℕ) → k < length σ.spans → suc i < length (marks_of σ (suc k)) → Any (λ b. b ≡ wall (suc k) i) (lots σ)
  wall_listed k i within below = in_block (wall (suc k) i) k within (any_right (λ b. b ≡ wall (suc k) i) (cells σ k) (walls σ (suc k)) (in_row (wall (suc k)) (length (marks_of σ (suc k)) - 1) i (omega arith)))
