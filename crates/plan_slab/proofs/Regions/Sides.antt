-- A region's neighbours are those on its left, whose numbers are less than its own, and those on its right, whose numbers are greater.
use Rattle.std.proofs.Common.{◌≡◌, ◌⊎◌, inl, inr, ◌↔◌, ℕ, suc, ◌<◌, Bool, true, ◌||◌, List, length, refl, sym, ap, ◌∙◌, ⊎_elim, false, arith}
use Rattle.std.proofs.lemmas.Bool.{and_parts, and_from, or_cases, or_left, or_right, eqb-true, ltb-true, lt-ltb, cases_order}
use Rattle.plan_spec.specs.Slabs.{Slabs}
use Rattle.plan_spec.specs.Regions.{Lot, cell, wall, region_at}
use Rattle.plan_spec.specs.Neighbours.{in_left, in_right, beside, AreNeighbours}
use Rattle.plan_slab.specs.LotOrder.{rank, Earlier}
use Rattle.plan_slab.specs.Sides.{is_left_of, is_right_of}
use Rattle.plan_slab.proofs.Regions.LotOrder.{not_both}

-- ---- a wall comes before the cell on its right, and after that on its left
left_rank : (σ : Slabs) (a b : Lot) → in_left σ a b ≡ true → rank a < rank b
left_rank σ (cell k i) b e = absurd (cc)
left_rank σ (wall n j) (wall k i) e = absurd (cc)
left_rank σ (wall n j) (cell k i) e = omega (arith, eqb-true n k (and_parts _ _ e).0)

right_rank : (σ : Slabs) (a b : Lot) → in_right σ a b ≡ true → rank b < rank a
right_rank σ (cell k i) b e = absurd (cc)
right_rank σ (wall n j) (wall k i) e = absurd (cc)
right_rank σ (wall n j) (cell k i) e = omega (arith, eqb-true n (suc k) (and_parts _ _ e).0)

module _ (σ : Slabs) (found : List Lot) (rising : (m n : ℕ) → m < n → n < length found → Earlier (region_at found m) (region_at found n)) where
  lesser : (m n : ℕ) → m < length found → rank (region_at found m) < rank (region_at found n) → m < n
  lesser m n hm h = elim (cases_order m n) [
    | inl e ↦ absurd (omega (arith, h, ap (λ n. rank (region_at found n)) e))
    | inr t ↦ elim t [
      | inl less ↦ less
      | inr more ↦ absurd (not_both (record { earlier = inl h }) (rising n m more hm))
    ]
  ]

  pub left_lesser : (n m : ℕ) → n < length found → is_left_of σ found n m ≡ true → n < m
  left_lesser n m hn e = elim (or_cases _ _ e) [
    | inl h ↦ lesser n m hn (left_rank σ (region_at found n) (region_at found m) h)
    | inr h ↦ lesser n m hn (right_rank σ (region_at found m) (region_at found n) h)
  ]

  pub right_greater : (n m : ℕ) → m < length found → is_right_of σ found n m ≡ true → m < n
  right_greater n m hm e = elim (or_cases _ _ e) [
    | inl h ↦ lesser m n hm (right_rank σ (region_at found n) (region_at found m) h)
    | inr h ↦ lesser m n hm (left_rank σ (region_at found m) (region_at found n) h)
  ]

-- ---- both together
-- four tests in another order
turned : (p q r s : Bool) → (p || q) || (r || s) ≡ (p || s) || (q || r)
turned true q r s = refl
turned false true r true = refl
turned false true r false = refl
turned false false true true = refl
turned false false true false = refl
turned false false false true = refl
turned false false false false = refl

pub by_sides : (σ : Slabs) (found : List Lot) (n m : ℕ) → AreNeighbours σ found n m ↔ ((n < length found) × (m < length found) × ((is_left_of σ found n m ≡ true) ⊎ (is_right_of σ found n m ≡ true)))
by_sides σ found n m = (to, from)
  where
    left : Bool
    left = is_left_of σ found n m

    right : Bool
    right = is_right_of σ found n m

    either : beside σ (region_at found n) (region_at found m) || beside σ (region_at found m) (region_at found n) ≡ left || right
    either = turned (in_left σ (region_at found n) (region_at found m)) (in_right σ (region_at found n) (region_at found m)) (in_left σ (region_at found m) (region_at found n)) (in_right σ (region_at found m) (region_at found n))

    to : AreNeighbours σ found n m → (n < length found) × (m < length found) × ((left ≡ true) ⊎ (right ≡ true))
    to e =
        let u = and_parts _ _ e in
        let v = and_parts _ _ u.1 in
        (ltb-true n (length found) u.0, ltb-true m (length found) v.0, or_cases left right (sym either ∙ v.1))

    from : (n < length found) × (m < length found) × ((left ≡ true) ⊎ (right ≡ true)) → AreNeighbours σ found n m
    from (hn, hm, h) = and_from _ _ (lt-ltb n (length found) hn) (and_from _ _ (lt-ltb m (length found) hm) (either ∙ ⊎_elim (or_left left right) (or_right left right) h))
