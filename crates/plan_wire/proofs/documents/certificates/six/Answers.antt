-- The six numbers, one after another.
use Rattle.std.proofs.Common.{rules, w64, SFits, to_z-of_z}
use Rattle.plan_wire.proofs.Six.{six_values, six_numbers}
use Rattle.plan_wire.proofs.documents.certificates.six.Goals as goal

pub returns : goal.returns
returns c =
    let a : SFits w64 c.in_ok-a.a = search rules in
    let b : SFits w64 c.in_ok-b.b = search rules in
    let d : SFits w64 c.in_ok-c.c = search rules in
    let e : SFits w64 c.in_ok-d.d = search rules in
    let f : SFits w64 c.in_ok-e.e = search rules in
    let g : SFits w64 c.in_ok-f.f = search rules in
    let vs = six_values c.in_ok-elements.field-0.now c.a-item.result c.b-item.result c.c-item.result c.d-item.result c.e-item.result c.f-item.result
    c.in-len6.len_at_least c.in-len6.len_below c.a-item.is c.b-item.is c.c-item.is c.d-item.is c.e-item.is c.f-item.is in
    rw (to_z-of_z a, to_z-of_z b, to_z-of_z d, to_z-of_z e, to_z-of_z f, to_z-of_z g)
    (six_numbers _ _ _ _ _ _ _ _ _ _ _ _ _ _ _ c.in_ok-elements.ensures vs c.in_ok-a.ensures c.in_ok-b.ensures c.in_ok-c.ensures c.in_ok-d.ensures c.in_ok-e.ensures c.in_ok-f.ensures)
