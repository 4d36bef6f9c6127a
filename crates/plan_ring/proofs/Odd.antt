-- The ring of regions that have their neighbours among them is odd at each point of one of them, and even at each point of any other region: what is kept of a cell is odd at its own points and at those of the walls in its left side alone.
use Rattle.std.proofs.Common.{◌≡◌, ◌⊎◌, inl, inr, ℕ, suc, ◌-◌, ◌<◌, Bool, true, false, ◌&&◌, List, ◌∷◌, length, eqb, ltb, refl, sym, ap, ap₂, ◌∙◌, subst, arith}
use Rattle.std.proofs.Math.Bool.{and-false}
use Rattle.std.proofs.lemmas.Bool.{eq-eqb, ne_eqb, eqb-true, lt-ltb, le-ltb, cases_eq, cases_order, and_parts, false_from_ne_true, or_left}
use Rattle.plan_exact.proofs.Laws.{linear}
use Rattle.plan_exact.proofs.Signs.{le_of_lt}
use Rattle.plan_spec.specs.Vector.{Vector, IsPoint, LeX}
use Rattle.plan_spec.specs.Parity.{over, parity, xor}
use Rattle.plan_spec.specs.Frame.{Frame}
use Rattle.plan_spec.specs.Slabs.{Slabs, line_at, spans_of}
use Rattle.plan_spec.specs.Regions.{Lot, cell, wall, Holds, region_at}
use Rattle.plan_plane.proofs.Segment.ByX.{leX_ltX}
use Rattle.plan_cross.proofs.ParityLaw.Xor.{xor_false}
use Rattle.plan_poly.proofs.EvenOdd.Chains.{parity_append}
use Rattle.plan_slab.specs.Decomposition.{IsDecomposition}
use Rattle.plan_spec.specs.Neighbours.{beside}
use Rattle.plan_spec.specs.Rings.{side, left_parts, right_parts, kept, ring}
use Rattle.plan_ring.proofs.Closed.{IsWhole}
use Rattle.plan_ring.proofs.Ends.{has, parity_flat, over_rising}
use Rattle.plan_map.proofs.Path.Places.{meets_at, met, meets_rise, above_from, below_from}
use Rattle.plan_ring.proofs.Sides.{IsInSlab, IsBetween, closed_even, other_slab, own_slab}
use Rattle.plan_ring.proofs.Sums.{xor_alike, xor_single, range_in}
use Rattle.plan_ring.proofs.Walls.{Fits, fits, walled}

abbrev is_cell : ℕ → ℕ → Lot → Bool
is_cell k i (cell n j) = eqb n k && eqb j i
is_cell k i (wall n j) = false

is_cell_from : (k i : ℕ) (x : Lot) → is_cell k i x ≡ true → x ≡ cell k i
is_cell_from k i (wall m j) e = absurd (cc)
is_cell_from k i (cell m j) e = let p = and_parts (eqb m k) (eqb j i) e in ap₂ cell (eqb-true m k p.0) (eqb-true j i p.1)

step_is : (i j : ℕ) → xor (ltb i j) (ltb i (suc j)) ≡ eqb j i
step_is i j = elim (cases_order j i) [
  | inl e ↦ ap₂ xor (le-ltb i j (omega arith)) (lt-ltb i (suc j) (omega arith)) ∙ sym (eq-eqb j i e)
  | inr o ↦ elim o [
    | inl l ↦ ap₂ xor (le-ltb i j (omega arith)) (le-ltb i (suc j) (omega arith)) ∙ sym (ne_eqb j i (λ e. omega arith))
    | inr l ↦ ap₂ xor (lt-ltb i j (omega arith)) (lt-ltb i (suc j) (omega arith)) ∙ sym (ne_eqb j i (λ e. omega arith))
  ]
]

module _ {sums : List (List Vector)} {room : Frame} {σ : Slabs} {found : List Lot} (d : IsDecomposition sums room σ found) where
  -- ---- over a point of slab k between spans i and i + 1
  module _ (k i : ℕ) (z : Vector) (s : IsInSlab σ k z) (b : IsBetween σ k i z) where
    one_cell : (n j : ℕ) → Fits σ (cell n j) → parity (kept σ found (cell n j)) z ≡ is_cell k i (cell n j)
    one_cell n j is =
        ap (xor (over (side σ n j) z)) (parity_append (right_parts σ found n j) (side σ n (suc j) ∷ left_parts σ found n j) z ∙ ap₂ (λ x y. xor x (xor (over (side σ n (suc j)) z) y)) right_none left_none ∙ xor_false (over (side σ n (suc j)) z))
        ∙ by (cases_eq n k)
      where
        hn : suc n < length σ.lines
        hn = is.0

        hj : suc j < length (spans_of σ n)
        hj = is.1

        right_none : parity (right_parts σ found n j) z ≡ false
        right_none = closed_even d z s.point (suc n) (meets_at σ n (suc n) j) (meets_at σ n (suc n) (suc j) - meets_at σ n (suc n) j) hn (omega (arith, meets_rise d.order n (suc n) j (inr refl) hj, met d.placed n (suc n) (suc j) hn (inr refl) hj))

        left_none : parity (left_parts σ found n j) z ≡ false
        left_none = closed_even d z s.point n (meets_at σ n n j) (meets_at σ n n (suc j) - meets_at σ n n j) (omega (arith, hn)) (omega (arith, meets_rise d.order n n j (inl refl) hj, met d.placed n n (suc j) hn (inl refl) hj))

        by : (n ≡ k) ⊎ (¬ (n ≡ k)) → xor (over (side σ n j) z) (over (side σ n (suc j)) z) ≡ (eqb n k && eqb j i)
        by (inr apart) = ap₂ xor (other_slab d k z s n j apart hn (omega (arith, hj))) (other_slab d k z s n (suc j) apart hn hj) ∙ sym (ap (λ x. x && eqb j i) (ne_eqb n k apart))
        by (inl e) =
            let h1 : suc j < length (spans_of σ k) = subst (λ n. suc j < length (spans_of σ n)) e hj in
            ap (λ n. xor (over (side σ n j) z) (over (side σ n (suc j)) z)) e
            ∙ ap₂ xor (own_slab d k z s i b j (omega (arith, h1))) (own_slab d k z s i b (suc j) h1)
            ∙ step_is i j
            ∙ sym (ap (λ x. x && eqb j i) (eq-eqb n k e))

    one_region : (x : Lot) → Fits σ x → parity (kept σ found x) z ≡ is_cell k i x
    one_region (wall m j) is = refl
    one_region (cell m j) is = one_cell m j is

    -- the ring is odd where cell i is listed
    cell_odd : (n : ℕ) (ns : List ℕ) → IsWhole σ found ns → n < length found → region_at found n ≡ cell k i → parity (ring σ found ns) z ≡ has ns n
    cell_odd n ns whole hn e =
        parity_flat (λ c. kept σ found (region_at found c)) z ns
        ∙ over_rising (length found) (λ c. parity (kept σ found (region_at found c)) z) ns whole.rises whole.within
        ∙ xor_alike (length found) _ _ (λ c l. ap (λ x. has ns c && x) (one_region (region_at found c) (fits d c l)))
        ∙ xor_single (length found) n (λ c. has ns c && is_cell k i (region_at found c)) hn (λ c l apart. ap (λ x. has ns c && x) (false_from_ne_true _ (λ t. apart (d.once.once c n l hn (is_cell_from k i (region_at found c) t ∙ sym e)))) ∙ and-false (has ns c))
        ∙ ap (λ x. has ns n && is_cell k i x) e
        ∙ ap (λ x. has ns n && x) (ap₂ (λ x y. x && y) (eq-eqb k k refl) (eq-eqb i i refl))
        ∙ and_true (has ns n)
      where
        and_true : (x : Bool) → (x && true) ≡ x
        and_true true = refl
        and_true false = refl

  pub ring_odd : (ns : List ℕ) (z : Vector) (r : ℕ) → IsWhole σ found ns → IsPoint z → r < length found → Holds σ (region_at found r) z → parity (ring σ found ns) z ≡ has ns r
  ring_odd ns z r whole hz hr inside = by (region_at found r) refl (fits d r hr) inside
    where
      by : (x : Lot) → region_at found r ≡ x → Fits σ x → Holds σ x z → parity (ring σ found ns) z ≡ has ns r
      by (cell k i) e is within =
          cell_odd k i z (record { point = hz; is_slab = is.0; after = le_of_lt within.after; before = within.before }) (record { is_cell = is.1; above = le_of_lt within.above; below = within.below }) r ns whole hr e
      -- a wall by the cell on its right
      by (wall h j) e is within =
          let c = (walled d).on_right_of r h j hr e in
          let at : Fits σ (cell h c.at) = subst (Fits σ) c.is_cell (fits d c.number c.is_region) in
          let hs : suc h < length σ.lines = at.0 in
          let hh : h < length σ.lines = omega arith in
          let lz = within.at in
          let zl : LeX z (line_at σ h) = omega (arith, linear) in
          let s : IsInSlab σ h z = record { point = hz; is_slab = at.0; after = omega (arith, linear); before = leX_ltX z (line_at σ h) (line_at σ (suc h)) hz (d.placed.line_points h hh) (d.placed.line_points (suc h) hs) zl (d.placed.lines_rise h (suc h) (omega arith) hs) } in
          let b : IsBetween σ h c.at z = record { is_cell = at.1; above = le_of_lt (above_from d.placed h h c.at at.0 (inl refl) (omega (arith, at.1)) z hz lz j is.1 within.above c.from_below); below = below_from d.placed h h (suc c.at) at.0 (inl refl) at.1 z hz lz j is.1 within.below c.to_above } in
          let one : beside σ (region_at found r) (region_at found c.number) ≡ true = ap₂ (beside σ) e c.is_cell ∙ or_left _ _ (ap₂ (λ x y. x && y) (eq-eqb h h refl) (range_in (meets_at σ h h c.at) (meets_at σ h h (suc c.at)) j c.from_below c.to_above)) in
          cell_odd h c.at z s b c.number ns whole c.is_region c.is_cell ∙ sym (whole.together r c.number hr c.is_region one)
