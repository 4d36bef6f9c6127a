-- The regions of alike slabs are one list of lots.
use Rattle.std.proofs.Common.{◌≡◌, ◌↔◌, List, get_or, All, sym, subst, arith}
use Rattle.plan_spec.specs.Vector.{Vector, IsPoint}
use Rattle.plan_spec.specs.Boundary.{IsClearOf}
use Rattle.plan_spec.specs.Frame.{Frame}
use Rattle.plan_spec.specs.Pieces.{Piece}
use Rattle.plan_spec.specs.Regions.{Lot, cell, wall, IsLot, spot_of, lots, Kept, AreRegions}
use Rattle.plan_spec.specs.Slabs.{Slabs}
use Rattle.plan_plane.proofs.Boundary.Position.{clear_same}
use Rattle.plan_plane.proofs.Segment.Same.{Same-swapped}
use Rattle.plan_slab.proofs.Regions.ExactlyOne.{KnownSlabs, spot_inside}
use Rattle.plan_slab.proofs.Regions.LotOrder.{all_lots}
use Rattle.plan_ring.proofs.Alike.Slabs.{AlikeSlabs, spans_long, marks_long}
use Rattle.plan_ring.proofs.Alike.RegionsSame.{one_kept, lots_same, spot_alike}
use Rattle.plan_ring.proofs.Alike.SlabsGround.{AlikeGround}

module _ {vs ws : List (List Vector)} {room : Frame} {ps qs : List Piece} (g : AlikeGround vs ws room ps qs) {σ τ : Slabs} (a : AlikeSlabs σ τ) (is : KnownSlabs vs room ps σ) (it : KnownSlabs ws room qs τ) where
  lots_are : All (IsLot σ) (lots σ)
  lots_are = all_lots σ (IsLot σ) (λ k i below less. (below, less)) (λ k j below less. (omega (arith, below, less, is.slabs.slab_count, is.slabs.line_count), less))

  also_lot : (lot : Lot) → IsLot σ lot → IsLot τ lot
  also_lot (cell k i) (hk, hi) = (omega (arith, a.slab_count), omega (arith, spans_long a k))
  also_lot (wall k j) (hk, hj) = (omega (arith, a.line_count), omega (arith, marks_long a k))

  both_clear : (lot : Lot) → IsLot σ lot → IsClearOf vs room (spot_of σ lot) ↔ IsClearOf ws room (spot_of τ lot)
  both_clear lot h =
      let z = spot_of σ lot in
      let u = spot_of τ lot in
      let hz : IsPoint (spot_of σ lot) = (spot_inside is lot h).0 in
      let hu : IsPoint (spot_of τ lot) = (spot_inside it lot (also_lot lot h)).0 in
      let e = spot_alike a lot in
      let spots = g.first.floor.spots in (
        λ c. (g.clear u hu).0 (clear_same vs room z u spots hz hu e c),
        λ c. clear_same vs room u z spots hu hz (Same-swapped z u e) ((g.clear u hu).1 c),
      )

  pub one_regions : (found other : List Lot) → AreRegions vs room σ found → AreRegions ws room τ other → found ≡ other
  one_regions found other h k =
      let P : Lot → Type 0 = λ lot. IsClearOf vs room (spot_of σ lot) in
      let Q : Lot → Type 0 = λ lot. IsClearOf ws room (spot_of τ lot) in
      one_kept P Q (lots σ) found other (λ k d within. both_clear (get_or (lots σ) k d) (lots_are k d within)) h (subst (λ ls. Kept Q ls other) (sym (lots_same a)) k)
