-- The picture is that of the certificate with the verdict, and the status is the verdict's.
use Rattle.std.proofs.Common.{List, ℕ, refl, ap, sym, subst, ◌∙◌}
use Rattle.plan_grid.specs.Spot.{spot_seen}
use Rattle.plan_scene.specs.Scene.{Scene, scene_seen}
use Rattle.plan_check.specs.Verdict.{IsVerdict, BlocksWhereAccepted}
use Rattle.plan_check.specs.declared.verdict.Verdict.{Verdict}
use Rattle.plan_check.specs.declared.verdict.Verdict.TheVariants.{Valid, Invalid}
use Rattle.plan_wire.specs.Documents.{Document, proof}
use Rattle.plan_wire.specs.Seen.{query_seen, certificate_seen}
use Rattle.plan_top.proofs.Judged.{on_document}
use Rattle.plan_picture.specs.Outcome.{IsAnswerTo, status_of}
use Rattle.plan_picture.specs.Picture.{IsCheckPicture, picture_text}
use Rattle.plan_picture.specs.Seen.{given_seen}
use Rattle.plan_picture.specs.declared.command.Command.TheVariants.{Check}
use Rattle.plan_picture.proofs.answer.check_answer.Goals as goal

by_verdict : (verdict : Verdict) (d : Document) (text : List ℕ) → IsCheckPicture verdict d text → IsAnswerTo Check d (status_of verdict) text
by_verdict Valid d text h = h
by_verdict (Invalid fault) d text h = h

pub returns : goal.returns
returns c =
    let f = c.args.floor.now in
    let given = given_seen f in
    let q = c.args.query in
    let certificate = c.args.certificate in
    let verdict = c.in-Ok.verdict in
    let d : Document = record { scene = scene_seen given; task = proof (query_seen q) (certificate_seen certificate) } in
    let judged = subst (λ (s : Scene). IsVerdict (scene_seen s) (spot_seen q.start) (spot_seen q.goal) certificate verdict) c.scene.ensures c.in-Ok.ensures.verdict in
    let blocking = subst (λ (s : Scene). BlocksWhereAccepted (scene_seen s) (spot_seen q.start) (spot_seen q.goal) certificate verdict) c.scene.ensures c.in-Ok.ensures.blocks in
    let drawn = c.in_ok-text.ensures.drawn in
    subst (λ s. IsAnswerTo Check d s c.in_ok-text.text.items) (sym c.status_of.ensures) (by_verdict verdict d c.in_ok-text.text.items (record {
      given = given;
      is_given = refl;
      first = f.stand;
      is_first = c.requires.floor.is_first;
      query = q;
      certificate = certificate;
      is_asked = refl;
      is_verdict = on_document (scene_seen given) given f.stand q certificate verdict refl c.requires.floor.is_first judged blocking;
      drawn = drawn;
      is_drawn = c.in_ok-text.ensures.is_drawn;
      is_text = c.in_ok-text.ensures.is_text ∙ ap (picture_text given drawn q) c.in_ok-shown.ensures;
    }))
