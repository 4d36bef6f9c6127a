-- What start or goal touches; else both are clear.
use Rattle.std.proofs.Common.{subst}
use Rattle.plan_spec.specs.Answers.{start_touches, goal_touches}
use Rattle.plan_spec.specs.Placement.{IsClear, IsTouched}
use Rattle.plan_grid.specs.Spot.{spot_seen}
use Rattle.plan_scene.specs.Scene.{scene_seen}
use Rattle.plan_reply.specs.Stand.{IsReply}
use Rattle.plan_reply.proofs.Replies.{start_reply, goal_reply}
use Rattle.plan_reply.proofs.stand.Stand.answer.Goals as goal

pub returns-in-Some-clause-reply : goal.returns-in-Some-clause-reply
returns-in-Some-clause-reply c =
    let scene = scene_seen c.self.inside.scene in
    let s = spot_seen c.args.query.start in
    let g = spot_seen c.args.query.goal in
    let who = c.in-Some.who in
    let touched : IsTouched scene s who = subst (λ z. IsTouched scene z who) c.of.ensures c.in-Some.ensures in
    subst (λ t. IsReply (scene_seen t) s g (start_touches who)) c.self.view_is (start_reply scene c.self.invariant.is_map s g who touched)

pub returns-in-Some-touches-clause-reply : goal.returns-in-Some-touches-clause-reply
returns-in-Some-touches-clause-reply c =
    let scene = scene_seen c.self.inside.scene in
    let s = spot_seen c.args.query.start in
    let g = spot_seen c.args.query.goal in
    let who = c.in-Some-touches.who in
    let clear : IsClear scene s = subst (IsClear scene) c.of.ensures c.in_default.ensures in
    let touched : IsTouched scene g who = subst (λ z. IsTouched scene z who) c.of-2.ensures c.in-Some-touches.ensures in
    subst (λ t. IsReply (scene_seen t) s g (goal_touches who)) c.self.view_is (goal_reply scene c.self.invariant.is_map s g who clear touched)

pub way-requires-clause-start_clear : goal.way-requires-clause-start_clear
way-requires-clause-start_clear c =
    let scene = scene_seen c.self.inside.scene in
    let s = spot_seen c.args.query.start in
    let clear : IsClear scene s = subst (IsClear scene) c.of.ensures c.in_default.ensures in
    subst (λ t. IsClear (scene_seen t) s) c.self.view_is clear

pub way-requires-clause-goal_clear : goal.way-requires-clause-goal_clear
way-requires-clause-goal_clear c =
    let scene = scene_seen c.self.inside.scene in
    let g = spot_seen c.args.query.goal in
    let clear : IsClear scene g = subst (IsClear scene) c.of-2.ensures c.in_default-touches.ensures in
    subst (λ t. IsClear (scene_seen t) g) c.self.view_is clear
