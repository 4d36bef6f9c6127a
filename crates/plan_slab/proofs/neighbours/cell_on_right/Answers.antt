-- The cell of the slab on the right, where there is one.
use Rattle.std.proofs.Common.{◌≤◌, length, sym, subst, arith}
use Rattle.std.specs.List.Sorted.{IsNonDecreasingBy}
use Rattle.std.proofs.lemmas.List.{length-map}
use Rattle.plan_slab.specs.NextTo.{IsPast}
use Rattle.plan_slab.proofs.LotNumbers.{keys_rise}
use Rattle.plan_slab.proofs.NextTo.{few_in_row, lefts_rise, small_indices, cells_on_right}
use Rattle.plan_slab.proofs.SlabsSeen.{row_at}
use Rattle.plan_slab.proofs.neighbours.cell_on_right.Goals as goal

pub past_on_left-past-requires-clause-few : goal.past_on_left-past-requires-clause-few
past_on_left-past-requires-clause-few c =
    let (σ, h) = c.requires in
    let e = row_at (λ v. v.items) c.args.ends.now c.args.line c.index-ends-line.result c.deref.result.now (omega arith) c.index-ends-line.is c.deref.ensures.value in
    subst (λ r. length r ≤ 131072) (sym e) (few_in_row h c.args.line (omega (arith, h.ends.slab_count, length-map c.args.ends.now (λ v. v.items))))

pub past_on_left-past-requires-clause-rising : goal.past_on_left-past-requires-clause-rising
past_on_left-past-requires-clause-rising c =
    let (σ, h) = c.requires in
    let e = row_at (λ v. v.items) c.args.ends.now c.args.line c.index-ends-line.result c.deref.result.now (omega arith) c.index-ends-line.is c.deref.ensures.value in
    subst (IsNonDecreasingBy (λ e. e.0)) (sym e) (lefts_rise h c.args.line (omega (arith, h.ends.slab_count, length-map c.args.ends.now (λ v. v.items))))

pub cell_before-requires-clause-rising : goal.cell_before-requires-clause-rising
cell_before-requires-clause-rising c = let (σ, h) = c.requires in keys_rise c.args.lots.now (small_indices h) h.rising

pub returns : goal.returns
returns c = λ σ h.
    let e = row_at (λ v. v.items) c.args.ends.now c.args.line c.index-ends-line.result c.deref.result.now (omega arith) c.index-ends-line.is c.deref.ensures.value in
    let past = subst (λ r. IsPast (λ e. e.0) r c.args.at c.past_on_left-past.result) e c.past_on_left-past.ensures in
    cells_on_right h c.args.line (omega (arith, h.ends.slab_count, length-map c.args.ends.now (λ v. v.items))) c.args.at c.past_on_left-past.result c.cell_before.result.start c.cell_before.result.end past c.cell_before.ensures
