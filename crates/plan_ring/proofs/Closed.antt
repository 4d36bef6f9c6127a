-- The ring of regions that have their neighbours among them is closed: each end of a free wall is counted at the cell on its left and at the cell on its right.
use Rattle.std.proofs.Common.{◌≡◌, inl, inr, ℕ, suc, ◌≤◌, ◌<◌, Bool, true, false, ◌&&◌, List, length, AllPairs, leb, ltb, refl, sym, ap, ap₂, ◌∙◌, subst, arith}
use Rattle.std.proofs.Math.Bool.{and-false}
use Rattle.std.proofs.lemmas.Bool.{eq-eqb, eqb-true, leb-true, ltb-true, cases_order, and_parts, false_from_ne_true}
use Rattle.plan_spec.specs.Vector.{Vector}
use Rattle.plan_spec.specs.Frame.{Frame}
use Rattle.plan_spec.specs.Parity.{xor}
use Rattle.plan_spec.specs.Chain.{odd_end, IsClosed}
use Rattle.plan_spec.specs.Slabs.{Slabs, spans_of}
use Rattle.plan_spec.specs.Regions.{Lot, cell, wall, region_at}
use Rattle.plan_slab.specs.Decomposition.{IsDecomposition}
use Rattle.plan_spec.specs.Neighbours.{beside}
use Rattle.plan_spec.specs.Rings.{kept, ring}
use Rattle.plan_slab.proofs.NextTo.{climb}
use Rattle.plan_map.proofs.Path.Places.{IsLineOf, meets_at, meets_rise}
use Rattle.plan_ring.proofs.Sums.{xor_below, xor_alike, xor_both, xor_none, xor_exchanged, xor_factor, xor_single, range_in}
use Rattle.plan_ring.proofs.Ends.{has, odd_end_flat, over_rising}
use Rattle.plan_ring.proofs.Kept.{open_ends, side_of, beside_is, kept_ends}
use Rattle.plan_ring.proofs.Walls.{SideCell, walled}

-- rising numbers of regions, with each region its neighbours
pub record IsWhole (σ : Slabs) (found : List Lot) (ns : List ℕ) : Type 0 where
  pub rises : AllPairs (λ m n. m < n) ns
  pub within : (n : ℕ) → has ns n ≡ true → n < length found
  pub together : (n c : ℕ) → n < length found → c < length found → beside σ (region_at found n) (region_at found c) ≡ true → has ns n ≡ has ns c

-- ---- ranges in a row
-- a number is in one of them at most
one_range : (f : ℕ → ℕ) (n : ℕ) → ((i : ℕ) → suc i < n → f i ≤ f (suc i)) → (a b j : ℕ) → suc a < n → suc b < n → f a ≤ j → j < f (suc a) → f b ≤ j → j < f (suc b) → a ≡ b
one_range f n step a b j ha hb h1 h2 h3 h4 = elim (cases_order a b) [
  | inl e ↦ e
  | inr o ↦ elim o [
    | inl l ↦ absurd (omega (arith, climb f n step (suc a) b (omega arith) (omega arith)))
    | inr l ↦ absurd (omega (arith, climb f n step (suc b) a (omega arith) (omega arith)))
  ]
]

-- ---- the cells in whose side on line f k a wall lies
record IsInSide (σ : Slabs) (f : ℕ → ℕ) (k j : ℕ) (x : Lot) : Type 0 where
  at : ℕ
  is_cell : x ≡ cell k at
  from_below : meets_at σ k (f k) at ≤ j
  to_above : j < meets_at σ k (f k) (suc at)

in_side : (σ : Slabs) (f : ℕ → ℕ) → ((k m : ℕ) → f k ≡ f m → k ≡ m) → (k j : ℕ) (x : Lot) → side_of σ f (wall (f k) j) x ≡ true → IsInSide σ f k j x
in_side σ f one k j (wall m i) e = absurd (cc)
in_side σ f one k j (cell m i) e =
    let p = and_parts _ _ e in
    let q = and_parts (leb (meets_at σ m (f m) i) j) (ltb j (meets_at σ m (f m) (suc i))) p.1 in
    let same : m ≡ k = sym (one k m (eqb-true (f k) (f m) p.0)) in
    record {
      at = i;
      is_cell = ap (λ n. cell n i) same;
      from_below = subst (λ n. meets_at σ n (f n) i ≤ j) same (leb-true _ _ q.0);
      to_above = subst (λ n. j < meets_at σ n (f n) (suc i)) same (ltb-true _ _ q.1);
    }

module _ {sums : List (List Vector)} {room : Frame} {σ : Slabs} {found : List Lot} (d : IsDecomposition sums room σ found) where
  one_cell : (f : ℕ → ℕ) → ((k m : ℕ) → f k ≡ f m → k ≡ m) → ((k : ℕ) → IsLineOf k (f k)) → (k j : ℕ) → SideCell σ found k (f k) j → xor_below (length found) (λ c. side_of σ f (wall (f k) j) (region_at found c)) ≡ true
  one_cell f one line k j r =
      xor_single (length found) r.number _ r.is_region others
      ∙ ap (side_of σ f (wall (f k) j)) r.is_cell
      ∙ ap₂ (λ x y. x && y) (eq-eqb (f k) (f k) refl) (range_in (meets_at σ k (f k) r.at) (meets_at σ k (f k) (suc r.at)) j r.from_below r.to_above)
    where
      others : (m : ℕ) → m < length found → ¬ (m ≡ r.number) → side_of σ f (wall (f k) j) (region_at found m) ≡ false
      others m l apart = false_from_ne_true _ (λ e.
          let s = in_side σ f one k j (region_at found m) e in
          let here = d.once.cells m k s.at l s.is_cell in
          let there = d.once.cells r.number k r.at r.is_region r.is_cell in
          let same = one_range (meets_at σ k (f k)) (length (spans_of σ k)) (λ i less. meets_rise d.order k (f k) i (line k) less) s.at r.at j here.1 there.1 s.from_below s.to_above r.from_below r.to_above in
          apart (d.once.once m r.number l r.is_region (s.is_cell ∙ ap (cell k) same ∙ sym r.is_cell)))

  two_cells : (n h j : ℕ) → n < length found → region_at found n ≡ wall h j → xor_below (length found) (λ c. beside σ (wall h j) (region_at found c)) ≡ false
  two_cells n h j l e =
      let walls = walled d in
      let (k, up, s) = walls.on_left_of n h j l e in
      xor_alike (length found) _ _ (λ c m. beside_is σ (wall h j) (region_at found c))
      ∙ xor_both (length found) (λ c. side_of σ (λ k. k) (wall h j) (region_at found c)) (λ c. side_of σ suc (wall h j) (region_at found c))
      ∙ ap₂ xor (one_cell (λ k. k) (λ k m same. same) (λ k. inl refl) h j (walls.on_right_of n h j l e))
      (subst (λ x. xor_below (length found) (λ c. side_of σ suc (wall x j) (region_at found c)) ≡ true) (sym up) (one_cell suc (λ k m same. omega arith) (λ k. inr refl) k j (subst (λ x. SideCell σ found k x j) up s)))

  -- ---- what one region leaves open
  beside_no_wall : (x : Lot) (h j : ℕ) → beside σ x (wall h j) ≡ false
  beside_no_wall (wall n i) h j = refl
  beside_no_wall (cell n i) h j = refl

  abbrev Opens : Vector → Lot → Type 0
  Opens z x = odd_end (kept σ found x) z ≡ xor_below (length found) (λ n. beside σ (region_at found n) x && open_ends σ z (region_at found n))

  open_is : (z : Vector) (c : ℕ) → c < length found → Opens z (region_at found c)
  open_is z c l = by (region_at found c) refl
    where
      by : (x : Lot) → region_at found c ≡ x → Opens z (region_at found c)
      by (wall h j) e = subst (Opens z) (sym e) (sym (xor_none (length found) _ (λ n m. ap (λ x. x && open_ends σ z (region_at found n)) (beside_no_wall (region_at found n) h j))))
      by (cell k i) e =
          let at = d.once.cells c k i l e in
          subst (Opens z) (sym e) (kept_ends σ found z d.once k i (meets_rise d.order k k i (inl refl) at.1) (meets_rise d.order k (suc k) i (inr refl) at.1))

  pub ring_closed : (ns : List ℕ) → IsWhole σ found ns → IsClosed (ring σ found ns)
  ring_closed ns whole z hz =
      odd_end_flat (λ n. kept σ found (region_at found n)) z ns
      ∙ over_rising count (λ n. odd_end (kept σ found (region_at found n)) z) ns whole.rises whole.within
      ∙ xor_alike count _ _ (λ c l. ap (λ x. has ns c && x) (open_is z c l) ∙ sym (xor_factor count (has ns c) (λ n. beside σ (region_at found n) (region_at found c) && opens n)))
      ∙ xor_exchanged count count (λ c n. has ns c && (beside σ (region_at found n) (region_at found c) && opens n))
      ∙ xor_none count _ (λ n l. xor_alike count _ _ (λ c m. moved (has ns n) (beside σ (region_at found n) (region_at found c)) (has ns c) (opens n) (whole.together n c l m)) ∙ xor_factor count (has ns n && opens n) (λ c. beside σ (region_at found n) (region_at found c)) ∙ none n l (region_at found n) refl)
    where
      count : ℕ
      count = length found

      opens : ℕ → Bool
      opens n = open_ends σ z (region_at found n)

      moved : (a b c o : Bool) → (b ≡ true → a ≡ c) → (c && (b && o)) ≡ ((a && o) && b)
      moved a true c o h = rw (h refl) (by c o)
        where
          by : (c o : Bool) → (c && o) ≡ ((c && o) && true)
          by true true = refl
          by true false = refl
          by false o = refl
      moved a false c o h = and-false c ∙ sym (and-false (a && o))

      none : (n : ℕ) → n < count → (x : Lot) → region_at found n ≡ x → ((has ns n && opens n) && xor_below count (λ c. beside σ (region_at found n) (region_at found c))) ≡ false
      none n l (cell k i) e = ap (λ x. (has ns n && open_ends σ z x) && xor_below count (λ c. beside σ (region_at found n) (region_at found c))) e ∙ ap (λ x. x && xor_below count (λ c. beside σ (region_at found n) (region_at found c))) (and-false (has ns n))
      none n l (wall h j) e = ap (λ x. (has ns n && opens n) && xor_below count (λ c. beside σ x (region_at found c))) e ∙ ap (λ x. (has ns n && opens n) && x) (two_cells n h j l e) ∙ and-false (has ns n && opens n)
