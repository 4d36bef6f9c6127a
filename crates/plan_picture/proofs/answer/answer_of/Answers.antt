-- What is answered on the floor of a document is answered to the document.
use Rattle.std.proofs.Common.{◌≡◌, map, ap, sym, subst, ◌∙◌}
use Rattle.std.proofs.lemmas.Result.{IfOk-weaker}
use Rattle.plan_scene.specs.Scene.{Scene, scene_seen}
use Rattle.plan_wire.specs.Documents as wire
use Rattle.plan_wire.specs.Documents.{queries, proof}
use Rattle.plan_wire.specs.Seen.{document_seen, task_seen, query_seen}
use Rattle.plan_wire.specs.declared.documents.Document.{Document}
use Rattle.plan_top.specs.First.{given_of}
use Rattle.plan_top.specs.Outcome.{IsRefusedScene}
use Rattle.plan_top.proofs.Judged as judged
use Rattle.plan_picture.specs.Outcome.{IsAnswerTo}
use Rattle.plan_picture.specs.declared.command.Command.TheVariants.{Query, Check}
use Rattle.plan_picture.proofs.answer.answer_of.Goals as goal

abbrev given : Document → Scene
given d = given_of d.frame d.robot.items d.obstacles.items

is_given : (d : Document) → scene_seen (given d) ≡ (document_seen d).scene
is_given d = judged.given_seen d.frame d.robot.items d.obstacles.items

abbrev asked : Scene → wire.Task → wire.Document
asked s task = record { scene = scene_seen s; task = task }

is_asked : (d : Document) (s : Scene) (task : wire.Task) → s ≡ given d → task ≡ task_seen d.task → asked s task ≡ document_seen d
is_asked d s task e t = λ i. record { scene = (ap scene_seen e ∙ is_given d) i; task = t i }

pub returns-in-Err : goal.returns-in-Err
returns-in-Err g c =
    let d = c.args.document in
    let scene : IsRefusedScene (document_seen d) c.in-Err.refusal = record { given = given d; is_given = is_given d; is_refused = rw c.in-Err.is at c.in_ok-floor.ensures } in
    IfOk-weaker c.refused.result _ _ (λ answer h. subst (λ s. IsAnswerTo c.args.command (document_seen d) s answer.text.items) (sym h.0) (scene, h.1)) c.refused.ensures

pub returns-in-Query-Queries : goal.returns-in-Query-Queries
returns-in-Query-Queries g c =
    let d = c.args.document in
    let made = rw c.in-Ok.is at c.in_ok-floor.ensures in
    let seen = ap (λ qs. queries (map query_seen qs)) c.as_slice.ensures.value ∙ sym (ap task_seen c.in-Query-Queries.is-1) in
    IfOk-weaker c.query_answer.result _ _
    (λ answer h. subst (λ k. IsAnswerTo k (document_seen d) answer.status answer.text.items) (sym c.in-Query-Queries.is-0)
    (subst (λ seen. IsAnswerTo (Query c.in-Query-Queries.number) seen answer.status answer.text.items) (is_asked d _ _ made.1 seen) h))
    c.query_answer.ensures

pub returns-in-Check-Proof : goal.returns-in-Check-Proof
returns-in-Check-Proof g c =
    let d = c.args.document in
    let made = rw c.in-Ok.is at c.in_ok-floor.ensures in
    IfOk-weaker c.check_answer.result _ _
    (λ answer h. subst (λ k. IsAnswerTo k (document_seen d) answer.status answer.text.items) (sym c.in-Check-Proof.is-0)
    (subst (λ seen. IsAnswerTo Check seen answer.status answer.text.items) (is_asked d _ _ made.1 (sym (ap task_seen c.in-Check-Proof.is-1))) h))
    c.check_answer.ensures
