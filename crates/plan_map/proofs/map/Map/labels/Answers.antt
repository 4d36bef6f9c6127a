-- What is joined through rows is joined through neighbours.
use Rattle.std.proofs.Common.{length, subst}
use Rattle.plan_slab.specs.Subdivision.{slabs_of, regions_of}
use Rattle.plan_spec.specs.Neighbours.{AreNeighbours}
use Rattle.plan_map.specs.Labels.{AreLabels}
use Rattle.plan_map.specs.Row.{in_row}
use Rattle.plan_map.proofs.Graph.Carried.{labels_carried}
use Rattle.plan_map.proofs.Graph.RegionRows.{agree, are_rows}
use Rattle.plan_map.proofs.map.Map.labels.Goals as goal

pub labels-requires-clause-rows : goal.labels-requires-clause-rows
labels-requires-clause-rows c = let s = c.self.inside.slabs in are_rows (slabs_of s) (regions_of s) c.rows.result.now c.rows.ensures.rows c.rows.ensures.in_order

pub returns : goal.returns
returns c =
    let s = c.self.inside.slabs in
    let rows = c.rows.result.now in
    let same = agree (slabs_of s) (regions_of s) rows c.rows.ensures.rows c.rows.ensures.in_order in
    let found = subst (λ n. AreLabels (in_row rows) n c.in_ok-found.found.items) c.rows.ensures.rows.count c.in_ok-found.ensures in
    rw (← c.self.view_is) (labels_carried (in_row rows) (AreNeighbours (slabs_of s) (regions_of s)) (λ m n. (same m n).0) (λ m n. (same m n).1) (length (regions_of s)) c.in_ok-found.found.items found)
