-- The first scene is refused, or the verdict in it is the one on the document.
use Rattle.std.proofs.Common.{sym, subst}
use Rattle.plan_grid.specs.Spot.{spot_seen}
use Rattle.plan_wire.specs.Seen.{document_seen, task_seen}
use Rattle.plan_scene.specs.Scene.{scene_seen}
use Rattle.plan_check.specs.Verdict.{IsVerdict, BlocksWhereAccepted}
use Rattle.plan_check.specs.declared.verdict.Verdict.TheVariants.{Valid, Invalid}
use Rattle.plan_top.specs.First.{given_of}
use Rattle.plan_top.specs.Outcome.{OnProof, IsVerdictOn}
use Rattle.plan_top.proofs.Judged.{given_seen, on_document}
use Rattle.plan_top.proofs.answer.answer_of.Goals as goal

pub returns-in-Err : goal.returns-in-Err
returns-in-Err g c =
    let d = c.args.document in record {
      given = given_of d.frame d.robot.items d.obstacles.items;
      is_given = given_seen d.frame d.robot.items d.obstacles.items;
      is_refused = rw c.in-Err.is at c.in_ok-stand.ensures;
    }

pub returns-in-Ok-Valid : goal.returns-in-Ok-Valid
returns-in-Ok-Valid g c =
    let d = c.args.document in
    let given = given_of d.frame d.robot.items d.obstacles.items in
    let seen = given_seen d.frame d.robot.items d.obstacles.items in
    let first = rw c.in-Ok.is at c.in_ok-stand.ensures in
    let q = c.in-Proof.query in
    let verdict = subst (λ s. IsVerdict (scene_seen s) (spot_seen q.start) (spot_seen q.goal) c.in-Proof.certificate Valid) c.scene.ensures (rw c.in-Ok-Valid.field-0-is at c.in-Ok-Valid.ensures.verdict) in
    let blocking = subst (λ s. BlocksWhereAccepted (scene_seen s) (spot_seen q.start) (spot_seen q.goal) c.in-Proof.certificate Valid) c.scene.ensures (rw c.in-Ok-Valid.field-0-is at c.in-Ok-Valid.ensures.blocks) in
    record {
      given = given;
      is_given = seen;
      first = c.in-Ok.stand;
      is_first = first;
      is_verdict = subst (λ t. OnProof (task_seen t) (λ query certificate. IsVerdictOn (document_seen d).scene c.in-Ok.stand query certificate Valid)) (sym c.in-Proof.is)
          (on_document (document_seen d).scene given c.in-Ok.stand q c.in-Proof.certificate Valid seen first verdict blocking);
    }

pub returns-in-Ok-Invalid : goal.returns-in-Ok-Invalid
returns-in-Ok-Invalid g c =
    let d = c.args.document in
    let given = given_of d.frame d.robot.items d.obstacles.items in
    let seen = given_seen d.frame d.robot.items d.obstacles.items in
    let first = rw c.in-Ok.is at c.in_ok-stand.ensures in
    let q = c.in-Proof.query in
    let verdict = subst (λ s. IsVerdict (scene_seen s) (spot_seen q.start) (spot_seen q.goal) c.in-Proof.certificate (Invalid c.in-Ok-Invalid.fault)) c.scene.ensures (rw c.in-Ok-Invalid.field-0-is at c.in-Ok-Invalid.ensures.verdict) in
    let blocking = subst (λ s. BlocksWhereAccepted (scene_seen s) (spot_seen q.start) (spot_seen q.goal) c.in-Proof.certificate (Invalid c.in-Ok-Invalid.fault)) c.scene.ensures (rw c.in-Ok-Invalid.field-0-is at c.in-Ok-Invalid.ensures.blocks) in
    record {
      given = given;
      is_given = seen;
      first = c.in-Ok.stand;
      is_first = first;
      is_verdict = subst (λ t. OnProof (task_seen t) (λ query certificate. IsVerdictOn (document_seen d).scene c.in-Ok.stand query certificate (Invalid c.in-Ok-Invalid.fault))) (sym c.in-Proof.is)
          (on_document (document_seen d).scene given c.in-Ok.stand q c.in-Proof.certificate (Invalid c.in-Ok-Invalid.fault) seen first verdict blocking);
    }
