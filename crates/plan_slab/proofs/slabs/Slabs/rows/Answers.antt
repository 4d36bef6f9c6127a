-- Regions stand in their order.
use Rattle.std.proofs.Common.{subst}
use Rattle.plan_slab.specs.Subdivision.{IsSubdivision}
use Rattle.plan_slab.proofs.slabs.Slabs.rows.Goals as goal

pub returns-clause-in_order : goal.returns-clause-in_order
returns-clause-in_order c =
    let h : IsSubdivision c.args.self.now = subst IsSubdivision c.self.view_is c.self.invariant.subdivision in
    h.rising
