use Rattle.std.proofs.Common.{subst, sym}
use Rattle.plan_slab.specs.Ends.{AreNeighbourRows}
use Rattle.plan_slab.specs.Sides.{AreLeftOf}
use Rattle.plan_slab.specs.Subdivision.{slabs_of, regions_of}
use Rattle.plan_slab.proofs.slabs.Slabs.left_of.Goals as goal

pub returns : goal.returns
returns c =
    let s = c.args.self.now in
    let rows = c.self.inside.rows.items in
    let row = c.index-row.result.now in
    let h : AreNeighbourRows (slabs_of s) (regions_of s) rows = subst (λ s. AreNeighbourRows (slabs_of s) (regions_of s) rows) c.self.view_is c.self.invariant.rows in
    subst (λ r. AreLeftOf (slabs_of s) (regions_of s) c.args.region r.left.start r.left.end) (sym c.index-row.ensures) (h.left c.args.region row c.requires)
