-- By the scene's sums and its room, which tell what is touched and what is tight.
use Rattle.std.proofs.Common.{Result, Ok, Err, IfOk, subst, sym}
use Rattle.plan_spec.specs.Reply.{IsTight}
use Rattle.plan_grid.specs.Frame.{frame_seen}
use Rattle.plan_grid.specs.Spot.{spot_seen}
use Rattle.plan_cross.specs.declared.certificate.Certificate.TheVariants.{Blocked}
use Rattle.plan_convex.specs.Piece.{sums_seen}
use Rattle.plan_scene.specs.Scene.{scene_seen}
use Rattle.plan_check.specs.Verdict.{IsVerdict, BlocksWhereAccepted, IsTightIn}
use Rattle.plan_check.proofs.Scenes.{told, tight_alike, verdict_alike}
use Rattle.plan_check.proofs.certificate.check.Goals as goal
use Rattle.plan_check.proofs.certificate.check.Goals.{After-drop-boxes-2}

-- what follows of an answer from two facts of it
by_both : {X E : Type 0} (A : Type 0) (Q R : X → Type 0) (r : Result X E) → ((x : X) → A → Q x → R x) → IfOk r (λ _. A) → IfOk r Q → IfOk r R
by_both A Q R (Ok x) f h k = f x h k
by_both A Q R (Err e) f h k = k

pub returns-in-Path-clause-verdict : goal.returns-in-Path-clause-verdict
returns-in-Path-clause-verdict c =
    let scene = c.args.scene.now in
    let sums = sums_seen c.sums-sums.result.now in
    let room = frame_seen c.room-room.result in
    rw c.in-Path.is (c.check_path.ensures (scene_seen scene) (told scene room sums c.count.ensures.scene c.room-room.ensures.room c.sums-sums.ensures.sums))

pub returns-clause-verdict : goal.returns-clause-verdict
returns-clause-verdict c =
    let scene = scene_seen c.args.scene.now in
    let sums = sums_seen c.sums-sums.result.now in
    let room = frame_seen c.room-room.result in
    let s = spot_seen c.args.query.start in
    let g = spot_seen c.args.query.goal in
    let chain = c.in-Blocked.chain in
    subst (λ certificate. IfOk c.check_chain.result (IsVerdict scene s g certificate)) (sym c.in-Blocked.is)
    (by_both _ _ (IsVerdict scene s g (Blocked chain)) c.check_chain.result
    (λ v points h. (room, c.room-room.ensures.room, verdict_alike (IsTight sums room) (IsTightIn scene room) s g chain points (tight_alike scene room sums c.sums-sums.ensures.sums) v h))
    c.check_chain.ensures.points c.check_chain.ensures.verdict)

pub returns-clause-blocks : goal.returns-clause-blocks
returns-clause-blocks c =
    let scene = c.args.scene.now in
    let sums = sums_seen c.sums-sums.result.now in
    let room = frame_seen c.room-room.result in
    let s = spot_seen c.args.query.start in
    let g = spot_seen c.args.query.goal in
    subst (λ certificate. IfOk c.check_chain.result (BlocksWhereAccepted (scene_seen scene) s g certificate)) (sym c.in-Blocked.is)
    (c.check_chain.ensures.blocks (scene_seen scene) (told scene room sums c.count.ensures.scene c.room-room.ensures.room c.sums-sums.ensures.sums))
