-- Regions rise by their keys, so the numbers of lots are found by a binary search.
use Rattle.std.proofs.Common.{◌≡◌, ◌⊎◌, inl, inr, ⊎_elim, ℕ, ◌+◌, ◌<◌, ◌≤◌, pos, true, false, ltb, ltb-true, ltb-false, List, [], ◌∷◌, map, length, get_or, All, AllPairs, Contains, refl, sym, ap, ◌∙◌, subst, eq-or-lt_of_le, arith}
use Rattle.std.specs.List.Sorted.{IsPartitionPoint, IsNonDecreasingBy}
use Rattle.std.proofs.lemmas.List.{get_or-map, get_or_default, length-map}
use Rattle.std.proofs.lemmas.Bool.{cases_order, cases_lt}
use Rattle.plan_spec.specs.Regions as spec
use Rattle.plan_spec.specs.Regions.{IsLot, cell, wall}
use Rattle.plan_grid.specs.Fraction.{Fraction}
use Rattle.plan_slab.specs.declared.lot.Lot.{Lot}
use Rattle.plan_slab.specs.declared.lot.Lot.TheVariants.{Cell, Wall}
use Rattle.plan_slab.specs.LotKeys.{key, AreBelow, IsFirstFrom, AreBetween}
use Rattle.plan_slab.specs.LotOrder.{index, Earlier}
use Rattle.plan_slab.specs.Seen.{lot_seen, strand_seen}
use Rattle.plan_grid.specs.Fraction.{point_at}
use Rattle.plan_slab.specs.SlabsSeen.{rows_seen}
use Rattle.plan_slab.specs.Subdivision.{Subdivision, IsSubdivision, regions_of, slabs_of}
use Rattle.plan_slab.proofs.SlabsSeen.{rows_at}
use Rattle.plan_slab.proofs.XValues.{order_nat}

-- ---- keys
-- they are in the order of lots, where no index is great
key_less : (a b : spec.Lot) → index a < 131072 → Earlier a b → key a < key b
key_less a b small h = ⊎_elim (λ lt. omega (arith, lt)) (λ e. omega (arith, e.0, e.1)) h.earlier

pub rows_length : (ls : List Fraction) (rows : List (List Fraction)) → length (rows_seen ls rows) ≤ length rows
rows_length [] rows = omega arith
rows_length (l ∷ ls) [] = omega arith
rows_length (l ∷ ls) (ms ∷ rows) = omega (arith, rows_length ls rows)

rows_length_lines : (ls : List Fraction) (rows : List (List Fraction)) → length (rows_seen ls rows) ≤ length ls
rows_length_lines [] rows = omega arith
rows_length_lines (l ∷ ls) [] = omega arith
rows_length_lines (l ∷ ls) (ms ∷ rows) = omega (arith, rows_length_lines ls rows)

-- the variant that is seen so
abbrev unseen : spec.Lot → Lot
unseen (cell k i) = Cell k i
unseen (wall k j) = Wall k j

unseen_seen : (a : Lot) → unseen (lot_seen a) ≡ a
unseen_seen (Cell k i) = refl
unseen_seen (Wall k j) = refl

seen_apart : (a b : Lot) → lot_seen a ≡ lot_seen b → a ≡ b
seen_apart a b e = sym (unseen_seen a) ∙ ap unseen e ∙ unseen_seen b

pub small : (s : Subdivision) → IsSubdivision s → All (λ lot. index lot < 131072) (regions_of s)
small s h n d within = by (get_or (regions_of s) n d) (h.lots n d within)
  where
    by : (lot : spec.Lot) → IsLot (slabs_of s) lot → index lot < 131072
    by (cell k i) (hk, hi) =
        let here : k < length s.spans = omega (arith, hk, length-map s.spans (map strand_seen)) in
        let e = get_or-map (map strand_seen) s.spans k [] [] here in
        omega (arith, hi, ap length e, length-map (get_or s.spans k []) strand_seen, h.rows.few_spans k [] here)
    by (wall k j) (hk, hj) =
        let here : k < length s.marks = omega (arith, hk, rows_length s.lines s.marks) in
        let zero_line : Fraction = record { num = pos 0; den = pos 0 } in
        let e = rows_at s.lines s.marks k zero_line (omega (arith, hk, rows_length_lines s.lines s.marks)) here in
        omega (arith, hj, ap length e, length-map (get_or s.marks k []) (point_at (get_or s.lines k zero_line)), h.rows.few_marks k [] here)

-- ---- the search
pub first_from : (lots : List Lot) (least n : ℕ) → n ≤ length lots → IsPartitionPoint (λ lot. ltb (key (lot_seen lot)) least ≡ true) (λ lot. ltb (key (lot_seen lot)) least ≡ false) lots n → IsFirstFrom (map lot_seen lots) least n
first_from lots least n bound p = record {
  within = omega (arith, bound, length-map lots lot_seen);
  before = λ k d less. let e = get_or-map lot_seen lots k (unseen d) d (omega (arith, less, bound)) in omega (arith, ap key e, ltb-true _ _ (p.0 k (unseen d) (omega arith) less));
  from = λ k d more within. let here : k < length lots = omega (arith, within, length-map lots lot_seen) in let e = get_or-map lot_seen lots k (unseen d) d here in omega (arith, ap key e, ltb-false _ _ (p.1 k (unseen d) more here));
}

-- lots up to that number have no greater keys
pub below_last : (lots : List Lot) (least n : ℕ) → IsNonDecreasingBy (λ lot. key (lot_seen lot)) lots → n < length lots → key (lot_seen (get_or lots n (Cell 0 0))) < least → AreBelow (map lot_seen lots) least (n + 1)
below_last lots least n rising within less = record {
  within = omega (arith, within, length-map lots lot_seen);
  before = λ k d below. let e = get_or-map lot_seen lots k (Cell 0 0) d (omega (arith, below, within)) in omega (arith, ap key e, rising k n (Cell 0 0) (omega (arith, below)) within, less);
}

-- and those from it on have no lesser ones
pub first_at : (lots : List Lot) (least n : ℕ) → IsNonDecreasingBy (λ lot. key (lot_seen lot)) lots → AreBelow (map lot_seen lots) least n → (n < length lots → least ≤ key (lot_seen (get_or lots n (Cell 0 0)))) → IsFirstFrom (map lot_seen lots) least n
first_at lots least n rising below there = record {
  within = below.within;
  before = below.before;
  from = λ k d more within.
      let here : k < length lots = omega (arith, within, length-map lots lot_seen) in
      let e = get_or-map lot_seen lots k (Cell 0 0) d here in
      omega (arith, ap key e, rising n k (Cell 0 0) more here, there (omega (arith, more, here)));
}

-- lots from that number on, one after another, as long as their keys are below a limit
abbrev pub AreKeysBelow : List Lot → ℕ → ℕ → ℕ → Type 0
AreKeysBelow lots high a b = (n : ℕ) (d : Lot) → a ≤ n → n < b → key (lot_seen (get_or lots n d)) < high

pub one_more_below : (lots : List Lot) (high a b : ℕ) → AreKeysBelow lots high a b → b < length lots → key (lot_seen (get_or lots b (Cell 0 0))) < high → AreKeysBelow lots high a (b + 1)
one_more_below lots high a b h within less n d from upto = ⊎_elim (λ lt. h n d from lt) (λ e. subst (λ n. key (lot_seen (get_or lots n d)) < high) (sym e) (subst (λ lot. key (lot_seen lot) < high) (get_or_default lots b (Cell 0 0) d within) less)) (order_nat n b upto)

pub between : (lots : List Lot) (low high a b : ℕ) → IsFirstFrom (map lot_seen lots) low a → b ≤ length lots → AreKeysBelow lots high a b → ((n : ℕ) → b ≤ n → n < length lots → high ≤ key (lot_seen (get_or lots n (Cell 0 0)))) → AreBetween (map lot_seen lots) low high a b
between lots low high a b first within below past n = (
  λ h. let e = at (omega (arith, h.1, within)) in (omega (arith, h.1, within, length-map lots lot_seen), first.from n (cell 0 0) h.0 (omega (arith, h.1, within, length-map lots lot_seen)), omega (arith, ap key e, below n (Cell 0 0) h.0 h.1)),
  λ h. (
    elim (cases_lt n a) [
      | inl less ↦ absurd (omega (arith, first.before n (cell 0 0) less, h.1))
      | inr more ↦ more
    ],
    elim (cases_lt n b) [
      | inl less ↦ less
      | inr more ↦ absurd (let here : n < length lots = omega (arith, h.0, length-map lots lot_seen) in omega (arith, ap key (at here), past n more here, h.2))
    ],
  ),
)
  where
    at : n < length lots → spec.region_at (map lot_seen lots) n ≡ lot_seen (get_or lots n (Cell 0 0))
    at here = get_or-map lot_seen lots n (Cell 0 0) (cell 0 0) here

module _ (lots : List Lot) (few : All (λ lot. index lot < 131072) (map lot_seen lots)) (rising : AllPairs Earlier (map lot_seen lots)) where
  rises : (i j : ℕ) (d : spec.Lot) → i < j → j < length (map lot_seen lots) → key (get_or (map lot_seen lots) i d) < key (get_or (map lot_seen lots) j d)
  rises i j d less within = key_less (get_or (map lot_seen lots) i d) (get_or (map lot_seen lots) j d) (few i d (omega arith)) (rising i j d less within)

  pub keys_rise : IsNonDecreasingBy (λ lot. key (lot_seen lot)) lots
  keys_rise i j d less within = ⊎_elim (λ e. let f = ap (λ k. key (lot_seen (get_or lots k d))) e in omega (arith, f)) (λ lt. by lt) (eq-or-lt_of_le less)
    where
      at : (k : ℕ) → k < length lots → get_or (map lot_seen lots) k (lot_seen d) ≡ lot_seen (get_or lots k d)
      at k below = get_or-map lot_seen lots k d (lot_seen d) below

      by : i < j → key (lot_seen (get_or lots i d)) ≤ key (lot_seen (get_or lots j d))
      by lt = omega (arith, ap key (at i (omega arith)), ap key (at j within), rises i j (lot_seen d) lt (omega (arith, within, length-map lots lot_seen)))

  pub no_number : (lot : Lot) (n : ℕ) → IsFirstFrom (map lot_seen lots) (key (lot_seen lot)) n → (n < length lots → ¬ (get_or lots n lot ≡ lot)) → ¬ (Contains (map lot_seen lots) (lot_seen lot))
  no_number lot n first off (k, within, is) = by (cases_order k n)
    where
      d : spec.Lot
      d = lot_seen lot

      here : key (get_or (map lot_seen lots) k (lot_seen lot)) ≡ key (lot_seen lot)
      here = ap key is

      by : (k ≡ n) ⊎ ((k < n) ⊎ (n < k)) → ⊥
      by (inl e) = off (omega (arith, e, within, length-map lots lot_seen)) (seen_apart (get_or lots n lot) lot (sym (get_or-map lot_seen lots n lot d (omega (arith, e, within, length-map lots lot_seen))) ∙ subst (λ i. get_or (map lot_seen lots) i d ≡ d) e is))
      by (inr (inl less)) = absurd (omega (arith, here, first.before k d less))
      by (inr (inr more)) = absurd (omega (arith, here, first.from n d (omega arith) (omega (arith, more, within)), rises n k d more within))
