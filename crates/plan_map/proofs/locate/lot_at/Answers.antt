-- Lines rise, so a binary search finds the line of the spot, or the slab.
use Rattle.std.proofs.Common.{◌≡◌, ℕ, length, refl, sym, ap, ◌∙◌, subst, arith}
use Rattle.plan_exact.proofs.Laws.{linear}
use Rattle.plan_spec.specs.Vector.{SameX}
use Rattle.plan_spec.specs.Slabs.{line_at}
use Rattle.plan_grid.specs.Spot.{spot_seen}
use Rattle.plan_slab.specs.Subdivision.{slabs_of}
use Rattle.plan_slab.proofs.Regions.Rows.{right_of}
use Rattle.plan_slab.proofs.Counts.{line_count}
use Rattle.plan_map.specs.Located.{IsBetween}
use Rattle.plan_map.proofs.Location.ByNumber.{line_found, spot_point}
use Rattle.plan_map.proofs.Location.Lots.{slab_found, outside}
use Rattle.plan_map.proofs.Location.Sinking.{IsFound}
use Rattle.plan_map.proofs.locate.lot_at.Goals as goal

pub returns-in-Ok-clause-holds : goal.returns-in-Ok-clause-holds
returns-in-Ok-clause-holds c = λ placed order.
    let s = c.args.slabs.now in
    let z = spot_seen c.args.spot in
    let lines = c.lines-lines in
    let search = c.binary_search-found in
    let found = line_found s z refl lines.result.now c.x_of.result search.result lines.ensures.value lines.ensures.each c.x_of.ensures.in_range c.x_of.ensures.value search.ensures.bound search.ensures.position placed in
    let at = subst (IsFound (length (slabs_of s).lines) (right_of (slabs_of s).lines z)) c.in-Ok.is found in
    let zero = at.1 in
    let same : SameX z (line_at (slabs_of s) c.in-Ok.line) = omega (arith, linear) in
    c.wall_at.ensures.holds placed same

pub returns-in_err-slab-clause-holds : goal.returns-in_err-slab-clause-holds
returns-in_err-slab-clause-holds c = λ placed order.
    let s = c.args.slabs.now in
    let z = spot_seen c.args.spot in
    let lines = c.lines-lines in
    let search = c.binary_search-found in
    let found = line_found s z refl lines.result.now c.x_of.result search.result lines.ensures.value lines.ensures.each c.x_of.ensures.in_range c.x_of.ensures.value search.ensures.bound search.ensures.position placed in
    let n : length lines.result.now ≡ length (slabs_of s).lines = ap length lines.ensures.value ∙ sym (line_count s) in
    let between = subst (λ n. (k : ℕ) → ¬ (IsBetween n search.result k)) n c.in_err-slab.ensures in
    rw c.from_residual.ensures (outside placed z (spot_point c.args.spot) search.result c.in_default.not-Ok found between)

pub returns-clause-holds : goal.returns-clause-holds
returns-clause-holds c = λ placed order.
    let s = c.args.slabs.now in
    let z = spot_seen c.args.spot in
    let lines = c.lines-lines in
    let search = c.binary_search-found in
    let found = line_found s z refl lines.result.now c.x_of.result search.result lines.ensures.value lines.ensures.each c.x_of.ensures.in_range c.x_of.ensures.value search.ensures.bound search.ensures.position placed in
    let n : length lines.result.now ≡ length (slabs_of s).lines = ap length lines.ensures.value ∙ sym (line_count s) in
    let between = subst (λ n. IsBetween n search.result c.in_ok-slab.slab) n c.in_ok-slab.ensures in
    c.cell_at.ensures.holds placed order (slab_found placed z (spot_point c.args.spot) search.result c.in_ok-slab.slab found between)
