-- One row more.
use Rattle.std.proofs.Common.{map, sym, subst, arith}
use Rattle.std.proofs.lemmas.List.{length-map, get_or-map}
use Rattle.plan_spec.specs.Regions.{cell, IsLot}
use Rattle.plan_slab.specs.declared.lot.Lot.TheVariants.{Cell}
use Rattle.plan_slab.specs.NextTo.{IsRowOf}
use Rattle.plan_slab.specs.Seen.{lot_seen}
use Rattle.plan_slab.proofs.OneByOne.{has_none, has_more}
use Rattle.plan_slab.proofs.NextTo.{are_rows}
use Rattle.plan_slab.proofs.neighbours.rows_of.Goals as goal

pub row_of-row-requires : goal.row_of-row-requires
row_of-row-requires c = let (σ, h) = c.requires in (σ, h, subst (IsLot σ) (get_or-map lot_seen c.args.lots.now c.loop-i.i (Cell 0 0) (cell 0 0) c.loop-i-test.true) (h.lots c.loop-i.i (cell 0 0) (omega (arith, length-map c.args.lots.now lot_seen))))

pub loop-i-init : goal.loop-i-init
loop-i-init c = rw c.new-rows.ensures.items (has_none _)

pub loop-i-preserved : goal.loop-i-preserved
loop-i-preserved c = rw c.in_ok-push.ensures.items (has_more _ c.loop-i.i c.loop-i.rows.items c.row_of-row.result c.loop-i.invariant
    (λ σ h.
    let i = c.loop-i.i in
    let found = map lot_seen c.args.lots.now in
    let e = get_or-map lot_seen c.args.lots.now i (Cell 0 0) (cell 0 0) c.loop-i-test.true in
    subst (λ lot. IsRowOf σ found lot c.row_of-row.result) (sym e) (c.row_of-row.ensures σ h (subst (IsLot σ) e (h.lots i (cell 0 0) (omega (arith, length-map c.args.lots.now lot_seen)))))))

pub returns : goal.returns
returns c = λ σ h. are_rows σ (map lot_seen c.args.lots.now) (map (λ v. v.items) c.args.ends.now) c.loop-i.i c.loop-i.rows.items h (omega (arith, length-map c.args.lots.now lot_seen)) c.loop-i.invariant
