-- The four numbers, one after another.
use Rattle.std.proofs.Common.{rules, w32, SFits, pos, neg_ℤ, to_z-of_z}
use Rattle.plan_wire.specs.Reading.{whole}
use Rattle.plan_wire.proofs.Four.{four_values, four_numbers}
use Rattle.plan_wire.proofs.documents.numbers.four_numbers.Goals as goal

pub returns : goal.returns
returns c =
    let a : SFits w32 c.in_ok-a.a = search rules in
    let b : SFits w32 c.in_ok-b.b = search rules in
    let d : SFits w32 c.in_ok-c.c = search rules in
    let e : SFits w32 c.in_ok-d.d = search rules in
    let vs = four_values c.in_ok-elements.field-0.now c.a-item.result c.b-item.result c.c-item.result c.d-item.result c.in-len4.len_at_least c.in-len4.len_below c.a-item.is c.b-item.is c.c-item.is c.d-item.is in
    rw (to_z-of_z a, to_z-of_z b, to_z-of_z d, to_z-of_z e)
    (four_numbers (whole (neg_ℤ (pos c.args.limit)) (pos c.args.limit)) _ _ _ _ _ _ _ _ _ _ _ c.in_ok-elements.ensures vs c.in_ok-a.ensures c.in_ok-b.ensures c.in_ok-c.ensures c.in_ok-d.ensures)
