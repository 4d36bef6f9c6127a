-- Each ring that is kept serves its part.
use Rattle.std.proofs.Common.{◌≡◌, ◌<◌, List, length, get_or, sym, subst}
use Rattle.plan_reply.specs.Rings.{IsRing}
use Rattle.plan_reply.specs.declared.rings.Ring.{Ring}
use Rattle.plan_reply.proofs.ringed_stand.RingedStand.ring_of.Goals as goal

pub returns-then-ring-part : goal.returns-then-ring-part
returns-then-ring-part c =
    let ring = c.ring-item.result in
    let at = c.loop-ring.ring-index in
    let scene = c.self.inside.stand in
    let value = c.deref-ring-items.ensures.value in
    let within : at < length c.self.inside.rings.items = subst (λ (rings : List Ring). at < length rings) value c.loop-ring-test.true in
    let is : ring ≡ get_or c.self.inside.rings.items at ring = subst (λ (rings : List Ring). ring ≡ get_or rings at ring) value c.ring-item.is in
    let held : IsRing scene ring.part ring.chain = subst (λ (r : Ring). IsRing scene r.part r.chain) (sym is) (c.self.invariant at ring within) in
    subst (λ s. IsRing s c.args.part ring.chain) c.self.view_is (subst (λ part. IsRing scene part ring.chain) c.if-ring-part.true held)
