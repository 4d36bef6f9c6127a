-- An element that is read goes behind those before it, and one that is refused refuses the list.
use Rattle.std.proofs.lemmas.Result.{err_from_is_err_and}
use Rattle.plan_wire.proofs.Each.{stops, goes_on}
use Rattle.plan_wire.proofs.documents.forms.each.Goals as goal

pub returns-in_err-part : goal.returns-in_err-part
returns-in_err-part g c =
    let p = err_from_is_err_and c.from_residual.result c.from_residual.ensures.1 in
    rw (p.1, p.2) (stops g.T.Form.reads g.T.Form.seen c.args.place c.args.items.now _ c.loop-i.i c.index-items-i.result c.loop-i.invariant c.loop-i-test.true c.index-items-i.is _ c.in_err-part.ensures)

pub loop-i-preserved : goal.loop-i-preserved
loop-i-preserved g c =
    rw (c.push.ensures.items, ← c.map_err.ensures.variant, c.in_ok-map_err.was) (goes_on g.T.Form.reads g.T.Form.seen c.args.place c.args.items.now _ c.loop-i.i c.index-items-i.result c.loop-i.invariant c.loop-i-test.true c.index-items-i.is _ c.in_ok-part.ensures)
