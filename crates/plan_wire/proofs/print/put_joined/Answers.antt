-- An element that is put goes to the end of what was put; where nothing is left, all was put.
use Rattle.plan_wire.proofs.Puts.{others, put_next, next_holds, all_put, all_hold}
use Rattle.plan_wire.proofs.print.put_joined.Goals as goal

pub loop-item-preserved : goal.loop-item-preserved
loop-item-preserved g c = (
  put_next g.T.Element.text c.put.new.out.items c.loop-item.out.items c.put_byte.new.out.items c.put-in-loop-item.new.out.items (others c.args.items.now) c.loop-item.item-index c.item-item.result
      c.loop-item-test.true c.item-item.is c.in_ok-put_byte.ensures c.in_ok-put-2.ensures.text c.loop-item.invariant.0,
  next_holds g.T.Element.Holds (others c.args.items.now) c.loop-item.item-index c.item-item.result c.loop-item-test.true c.item-item.is c.in_ok-put-2.ensures.holds c.loop-item.invariant.1,
)

pub returns-clause-text : goal.returns-clause-text
returns-clause-text g c =
    all_put g.T.Element.text c.args.out.now.items c.put.new.out.items c.loop-item.out.items c.args.items.now c.first-item.result c.loop-item.item-index c.in-len1-up.len_at_least c.first-item.is c.in_ok-put.ensures.text c.loop-item-test.false c.loop-item.invariant.0

pub returns-clause-holds : goal.returns-clause-holds
returns-clause-holds g c =
    all_hold g.T.Element.Holds c.args.items.now c.first-item.result c.loop-item.item-index c.in-len1-up.len_at_least c.first-item.is c.in_ok-put.ensures.holds c.loop-item-test.false c.loop-item.invariant.1
