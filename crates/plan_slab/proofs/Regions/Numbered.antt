-- Regions by their numbers: each is a lot, all its points are clear, each clear point is in exactly one, and a lot that is none is clear nowhere.
use Rattle.std.proofs.Common.{◌≡◌, ◌↔◌, ◌⊎◌, inl, inr, ℕ, ◌<◌, List, length, Any, Contains, sym, ap, ◌∙◌, subst, arith}
use Rattle.std.proofs.lemmas.Bool.{cases_order}
use Rattle.std.proofs.lemmas.List.{get_or_default}
use Rattle.plan_exact.proofs.Laws.{linear}
use Rattle.plan_exact.proofs.Signs.{lt_of_not_le}
use Rattle.plan_spec.specs.Vector.{Vector, IsPoint, LtX, LtY}
use Rattle.plan_spec.specs.Frame.{Frame}
use Rattle.plan_spec.specs.Boundary.{IsClearOf}
use Rattle.plan_spec.specs.Pieces.{Piece}
use Rattle.plan_spec.specs.Slabs.{Slabs}
use Rattle.plan_spec.specs.Regions.{Lot, cell, Holds, IsLot, spot_of, lots, AreRegions, region_at, IsIn}
use Rattle.plan_plane.proofs.Lists.{any_weaker}
use Rattle.plan_plane.proofs.Pairs.{pairs_at}
use Rattle.plan_plane.proofs.Rising.ByCoordinate.{order_x, order_y}
use Rattle.plan_slab.specs.LotOrder.{Earlier}
use Rattle.plan_slab.proofs.ByNumber.{at_number}
use Rattle.plan_slab.proofs.Regions.ExactlyOne.{KnownSlabs, decides, spot_inside, once, listed}
use Rattle.plan_slab.proofs.Regions.Kept.{kept_all, kept_has, kept_any, kept_pairs}
use Rattle.plan_slab.proofs.Regions.LotOrder.{differs, not_both, lots_rise, all_lots}

module _ {sums : List (List Vector)} {room : Frame} {pieces : List Piece} {σ : Slabs} {found : List Lot} (map : KnownSlabs sums room pieces σ) (regions : AreRegions sums room σ found) where
  pub is_lot : (n : ℕ) → n < length found → IsLot σ (region_at found n)
  is_lot n within =
      kept_all (IsLot σ) regions (all_lots σ (IsLot σ) (λ k i below less. (below, less)) (λ k j below less. (omega (arith, below, less, map.slabs.slab_count, map.slabs.line_count), less))) n (cell 0 0) within

  -- of two numbers the lesser has the earlier lot
  pub rising : (m n : ℕ) → m < n → n < length found → Earlier (region_at found m) (region_at found n)
  rising m n less within = pairs_at Earlier found (kept_pairs Earlier regions (lots_rise σ)) m n (cell 0 0) less within

  pub one_number : (m n : ℕ) → m < length found → n < length found → region_at found m ≡ region_at found n → m ≡ n
  one_number m n hm hn e = elim (cases_order m n) [
    | inl same ↦ same
    | inr t ↦ elim t [
      | inl less ↦ absurd (differs (rising m n less hn) e)
      | inr more ↦ absurd (differs (rising n m more hm) (sym e))
    ]
  ]

  pub spot_clear : (n : ℕ) → n < length found → IsClearOf sums room (spot_of σ (region_at found n))
  spot_clear n within = kept_has regions n (cell 0 0) within

  pub region_clear : (n : ℕ) (z : Vector) → n < length found → IsPoint z → Holds σ (region_at found n) z → IsClearOf sums room z
  region_clear n z within hz holds =
      (decides map (region_at found n) (is_lot n within) z hz holds).1 (spot_clear n within)

  -- the number of a listed lot with a clear point
  number : (lot : Lot) (z : Vector) → IsPoint z → IsLot σ lot → Holds σ lot z → Any (λ b. b ≡ lot) (lots σ) → IsClearOf sums room z → (n : ℕ) × (n < length found) × (region_at found n ≡ lot)
  number lot z hz is holds among clear =
      let free = (decides map lot is z hz holds).0 clear in
      at_number (λ b. b ≡ lot) found (cell 0 0) (kept_any (λ b. b ≡ lot) regions (any_weaker (λ b. b ≡ lot) (λ b. (b ≡ lot) × IsClearOf sums room (spot_of σ b)) (λ b e. (e, subst (λ a. IsClearOf sums room (spot_of σ a)) (sym e) free)) (lots σ) among))

  pub exactly_one : (z : Vector) → IsPoint z → IsClearOf sums room z → (n : ℕ) × IsIn σ found z n
  exactly_one z hz clear =
      let (lot, is, holds, among) = listed map z hz clear in
      let (n, within, e) = number lot z hz is holds among clear in (
        n,
        record {
          is_region = within;
          holds = subst (λ a. Holds σ a z) (sym e) holds;
          no_other = λ m below h. one_number m n below within (once map (region_at found m) (region_at found n) z hz (is_lot m below) (is_lot n within) h (subst (λ a. Holds σ a z) (sym e) holds));
        },
      )

  -- what is no region touches throughout
  pub other_touches : (lot : Lot) (z : Vector) → IsPoint z → IsLot σ lot → Holds σ lot z → ¬ (Contains found lot) → ¬ (IsClearOf sums room z)
  other_touches lot z hz is holds out clear =
      let (n, h) = exactly_one z hz clear in
      let e = once map (region_at found n) lot z hz (is_lot n h.is_region) is h.holds holds in
      out (n, h.is_region, get_or_default found n lot (cell 0 0) h.is_region ∙ e)

  pub in_order : (m n : ℕ) → m < length found → n < length found → (m < n) ↔ Earlier (region_at found m) (region_at found n)
  in_order m n hm hn = (λ less. rising m n less hn, by (cases_order m n))
    where
      by : (m ≡ n) ⊎ ((m < n) ⊎ (n < m)) → Earlier (region_at found m) (region_at found n) → m < n
      by (inl e) h = absurd (differs h (ap (region_at found) e))
      by (inr (inl less)) h = less
      by (inr (inr more)) h = absurd (not_both h (rising n m more hm))

  -- a clear point is strictly within the room
  pub proper : 0 < length found → LtX room.low room.high × LtY room.low room.high
  proper some =
      let s = spot_inside map (region_at found 0) (is_lot 0 some) in
      let z = spot_of σ (region_at found 0) in
      let clear = spot_clear 0 some in
      let one = map.known.floor.spots in
      let low : IsPoint room.low = omega (arith, linear, one.low) in
      let high : IsPoint room.high = omega (arith, linear, one.high) in (
        order_x.less room.low z room.high low s.0 high (lt_of_not_le _ _ (λ h. clear.in_room (inl h))) (lt_of_not_le _ _ (λ h. clear.in_room (inr (inl h)))),
        order_y.less room.low z room.high low s.0 high (lt_of_not_le _ _ (λ h. clear.in_room (inr (inr (inl h))))) (lt_of_not_le _ _ (λ h. clear.in_room (inr (inr (inr h))))),
      )
