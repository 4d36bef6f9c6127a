-- The search goes through rows, which have the neighbours of the regions.
use Rattle.plan_slab.specs.Subdivision.{slabs_of, regions_of}
use Rattle.plan_spec.specs.Neighbours.{AreNeighbours}
use Rattle.plan_spec.specs.Walks.{IsFirstWalk, AreJoined}
use Rattle.plan_map.specs.Row.{in_row}
use Rattle.plan_map.proofs.Graph.Carried.{search_carried, at_some, at_none}
use Rattle.plan_map.proofs.Graph.RegionRows.{agree, are_rows}
use Rattle.plan_map.proofs.map.Map.walk.Goals as goal

pub distances-requires-clause-rows : goal.distances-requires-clause-rows
distances-requires-clause-rows c = let s = c.self.inside.slabs in are_rows (slabs_of s) (regions_of s) c.rows-rows.result.now c.rows-rows.ensures.rows c.rows-rows.ensures.in_order

pub first_walk-requires-clause-rows : goal.first_walk-requires-clause-rows
first_walk-requires-clause-rows c = let s = c.self.inside.slabs in are_rows (slabs_of s) (regions_of s) c.rows-rows.result.now c.rows-rows.ensures.rows c.rows-rows.ensures.in_order

pub returns-in-Some : goal.returns-in-Some
returns-in-Some c =
    let s = c.self.inside.slabs in
    let rows = c.rows-rows.result.now in
    let next = AreNeighbours (slabs_of s) (regions_of s) in
    let same = agree (slabs_of s) (regions_of s) rows c.rows-rows.ensures.rows c.rows-rows.ensures.in_order in
    let found = search_carried (in_row rows) next (λ m n. (same m n).0) (λ m n. (same m n).1) (λ v. v.items) c.args.from.number c.args.to.number c.in_ok-regions.field-0 c.in_ok-regions.ensures in
    rw (← c.self.view_is) (at_some (¬ (AreJoined next c.args.from.number c.args.to.number)) (λ v. IsFirstWalk next c.args.from.number c.args.to.number v.items) c.in_ok-regions.field-0 c.in-Some.regions c.in-Some.is found)

pub returns : goal.returns
returns c =
    let s = c.self.inside.slabs in
    let rows = c.rows-rows.result.now in
    let next = AreNeighbours (slabs_of s) (regions_of s) in
    let same = agree (slabs_of s) (regions_of s) rows c.rows-rows.ensures.rows c.rows-rows.ensures.in_order in
    let found = search_carried (in_row rows) next (λ m n. (same m n).0) (λ m n. (same m n).1) (λ v. v.items) c.args.from.number c.args.to.number c.in_ok-regions.field-0 c.in_ok-regions.ensures in
    rw (← c.self.view_is) (at_none (¬ (AreJoined next c.args.from.number c.args.to.number)) (λ v. IsFirstWalk next c.args.from.number c.args.to.number v.items) c.in_ok-regions.field-0 c.in-None.is found)
