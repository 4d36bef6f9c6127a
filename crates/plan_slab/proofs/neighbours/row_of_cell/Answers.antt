-- The walls between the marks on the left, and those between the marks on the right.
use Rattle.std.proofs.Common.{◌+◌, get_or, refl, ap, ◌∙◌, arith}
use Rattle.std.proofs.lemmas.List.{length-map}
use Rattle.plan_slab.proofs.LotNumbers.{keys_rise}
use Rattle.plan_slab.proofs.NextTo.{small_indices, cell_row}
use Rattle.plan_slab.proofs.SlabsSeen.{row_at}
use Rattle.plan_slab.proofs.neighbours.row_of_cell.Goals as goal

pub walls-requires-clause-rising : goal.walls-requires-clause-rising
walls-requires-clause-rising c = let (σ, h, is) = c.requires in keys_rise c.args.lots.now (small_indices h) h.rising

pub overflow_add-slab : goal.overflow_add-slab
overflow_add-slab c = let (σ, h, is) = c.requires in omega (arith, is.0, h.few_slabs)

pub walls-requires-2-clause-rising : goal.walls-requires-2-clause-rising
walls-requires-2-clause-rising c = let (σ, h, is) = c.requires in keys_rise c.args.lots.now (small_indices h) h.rising

pub returns : goal.returns
returns c = λ σ h is.
    let i = c.args.at in
    let row = row_at (λ v. v.items) c.args.ends.now c.args.slab c.index-ends-slab.result c.index-ends-slab.result.items (omega (arith, is.0, h.ends.slab_count, length-map c.args.ends.now (λ v. v.items))) c.index-ends-slab.is refl in
    let low = c.index-low.ensures ∙ ap (λ r. get_or r i c.index-low.result.now) row in
    let high = c.index-high.ensures ∙ ap (λ r. get_or r (i + 1) c.index-high.result.now) row in
    cell_row h c.args.slab i c.index-low.result.now c.index-high.result.now (record { left = c.walls.result; right = c.walls-2.result }) is low high c.walls.ensures c.walls-2.ensures
