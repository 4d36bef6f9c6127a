-- The ring of the start's part is the reply, since the goal is in another.
use Rattle.std.proofs.Common.{sym, subst, arith}
use Rattle.plan_exact.proofs.Laws.{linear}
use Rattle.plan_spec.specs.Answers.{by_chain}
use Rattle.plan_grid.specs.Spot.{spot_seen}
use Rattle.plan_scene.specs.Scene.{scene_seen}
use Rattle.plan_reply.specs.Rings.{IsClosedPart}
use Rattle.plan_reply.specs.Stand.{IsReply}
use Rattle.plan_reply.proofs.ringed_stand.RingedStand.answer.Goals as goal

pub returns-in-Some-ring_of-clause-reply : goal.returns-in-Some-ring_of-clause-reply
returns-in-Some-ring_of-clause-reply c =
    let s = spot_seen c.args.query.start in
    let g = spot_seen c.args.query.goal in
    let closed = subst (λ t. IsClosedPart (scene_seen t) s g c.in-Some.part) c.self.view_is c.in-Some.ensures in
    subst (λ chain. IsReply (scene_seen c.args.self.now) s g (by_chain chain)) (sym c.in_ok-copy.ensures) (c.in-Some-ring_of.ensures.serves s g (omega (arith, linear)) (omega (arith, linear)) closed)
