-- The lot that holds the spot is a region exactly where the spot is clear.
use Rattle.std.proofs.Common.{◌<◌, ◌≡◌, length, Contains, subst}
use Rattle.plan_spec.specs.Regions.{region_at}
use Rattle.plan_grid.specs.Spot.{spot_seen}
use Rattle.plan_slab.specs.Decomposition.{IsPlaced, AreInOrder}
use Rattle.plan_slab.specs.Seen.{lot_seen}
use Rattle.plan_slab.specs.Subdivision.{slabs_of, regions_of}
use Rattle.plan_map.specs.Located.{IsInNone, IsHeldBy}
use Rattle.plan_map.proofs.Location.ByNumber.{spot_point}
use Rattle.plan_map.proofs.Location.Lots.{not_clear, not_free, is_in}
use Rattle.plan_map.proofs.map.Map.locate.Goals as goal

pub returns-in_err-lot-clause-located : goal.returns-in_err-lot-clause-located
returns-in_err-lot-clause-located c = λ sums room d.
    let z = spot_seen c.args.spot in
    let edges = subst (λ s. IsPlaced (slabs_of s) → AreInOrder (slabs_of s) → IsInNone (slabs_of s) z) c.slabs.ensures c.in_err-lot.ensures.holds d.placed d.order in
    rw c.from_residual.ensures (not_clear d z (spot_point c.args.spot) edges)

pub returns-in_err-number-clause-located : goal.returns-in_err-number-clause-located
returns-in_err-number-clause-located c = λ sums room d.
    let z = spot_seen c.args.spot in
    let lot = lot_seen c.in_ok-lot.lot in
    let held = subst (λ s. IsPlaced (slabs_of s) → AreInOrder (slabs_of s) → IsHeldBy (slabs_of s) z lot) c.slabs.ensures c.in_ok-lot.ensures.holds d.placed d.order in
    let out = subst (λ s. ¬ (Contains (regions_of s) lot)) c.slabs-2.ensures c.in_err-number.ensures in
    rw c.from_residual-in_err-number.ensures (not_free d z (spot_point c.args.spot) lot held out)

pub returns-clause-located : goal.returns-clause-located
returns-clause-located c = λ sums room d.
    let z = spot_seen c.args.spot in
    let lot = lot_seen c.in_ok-lot.lot in
    let number = c.in_ok-number.number in
    let held = subst (λ s. IsPlaced (slabs_of s) → AreInOrder (slabs_of s) → IsHeldBy (slabs_of s) z lot) c.slabs.ensures c.in_ok-lot.ensures.holds d.placed d.order in
    let is = subst (λ s. (number < length (regions_of s)) × (region_at (regions_of s) number ≡ lot)) c.slabs-2.ensures c.in_ok-number.ensures in
    is_in d z (spot_point c.args.spot) lot number held is.0 is.1
