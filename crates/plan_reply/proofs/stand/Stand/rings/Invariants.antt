-- The rings so far serve their parts.
use Rattle.plan_reply.specs.Rings.{AreRings}
use Rattle.plan_reply.proofs.stand.Stand.rings.Given as goal

abbrev pub invariant-loop-region : goal.invariant-loop-region
invariant-loop-region l = AreRings l.self l.rings.items
