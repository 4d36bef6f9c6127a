-- The segments of a chain are seen by their ends.
use Rattle.std.proofs.lemmas.Result.{on_ok_weaker}
use Rattle.plan_wire.proofs.Puts.{chain_put, chain_in_range}
use Rattle.plan_wire.proofs.print.put_certificate.Goals as goal

pub returns-in-Blocked-clause-text : goal.returns-in-Blocked-clause-text
returns-in-Blocked-clause-text c =
    rw c.in-Blocked.is (on_ok_weaker c.put_object-in-Blocked.result (chain_put c.args.text.now.items c.put_object-in-Blocked.new.out.items c.deref-in-Blocked.result.now c.chain.inside.segments.items c.in-Blocked.chain c.deref-in-Blocked.ensures.value c.chain.view_is) c.put_object-in-Blocked.ensures.text)

pub returns-in-Blocked-clause-in_range : goal.returns-in-Blocked-clause-in_range
returns-in-Blocked-clause-in_range c =
    rw c.in-Blocked.is (on_ok_weaker c.put_object-in-Blocked.result (chain_in_range c.deref-in-Blocked.result.now c.chain.inside.segments.items c.in-Blocked.chain c.deref-in-Blocked.ensures.value c.chain.view_is) c.put_object-in-Blocked.ensures.holds)
