-- None where start or goal touches, or both are in one part.
use Rattle.std.proofs.Common.{subst, arith}
use Rattle.plan_exact.proofs.Laws.{linear}
use Rattle.plan_grid.specs.Spot.{spot_seen}
use Rattle.plan_scene.specs.Scene.{IsScene, scene_seen}
use Rattle.plan_reply.specs.Stand.{IsPart}
use Rattle.plan_reply.proofs.Parts.{start_touched, goal_touched, in_one_part}
use Rattle.plan_reply.proofs.stand.Stand.closed_part.Goals as goal

pub returns-in_err-start : goal.returns-in_err-start
returns-in_err-start c =
    let s = spot_seen c.args.query.start in
    let g = spot_seen c.args.query.goal in
    let scene = subst IsScene c.self.view_is c.count.ensures.scene in
    rw c.from_residual.ensures (start_touched c.args.self.now scene s g (omega (arith, linear)) (omega (arith, linear)) c.in_err-start.ensures)

pub returns-in_err-goal : goal.returns-in_err-goal
returns-in_err-goal c =
    let s = spot_seen c.args.query.start in
    let g = spot_seen c.args.query.goal in
    let scene = subst IsScene c.self.view_is c.count.ensures.scene in
    rw c.from_residual-in_err-goal.ensures (goal_touched c.args.self.now scene s g (omega (arith, linear)) (omega (arith, linear)) c.in_err-goal.ensures)

pub returns-then-start-goal : goal.returns-then-start-goal
returns-then-start-goal c =
    let s = spot_seen c.args.query.start in
    let g = spot_seen c.args.query.goal in
    let scene = subst IsScene c.self.view_is c.count.ensures.scene in
    let there = subst (IsPart (scene_seen c.args.self.now) s) c.if-start-goal.true c.in_ok-start.ensures in
    in_one_part c.args.self.now scene s g (omega (arith, linear)) (omega (arith, linear)) c.in_ok-goal.goal there c.in_ok-goal.ensures
