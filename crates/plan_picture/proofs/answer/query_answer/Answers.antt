-- There is no query of the number 0, and none beyond the last; the picture is that of the query of the number.
use Rattle.std.proofs.Common.{◌≡◌, ⊎_elim, ℕ, suc, ◌<◌, ◌-◌, List, length, map, get_or, None, refl, ap, sym, subst, ◌∙◌, arith}
use Rattle.std.proofs.lemmas.List.{length-map}
use Rattle.std.proofs.lemmas.Result.{IfOk-weaker}
use Rattle.plan_spec.specs.Answers.{Answer}
use Rattle.plan_cross.specs.declared.certificate.Query as cross
use Rattle.plan_scene.specs.Scene.{scene_seen}
use Rattle.plan_wire.specs.Documents.{Document, queries}
use Rattle.plan_wire.specs.Seen.{query_seen}
use Rattle.plan_reply.specs.Seen.{answer_seen}
use Rattle.plan_top.specs.Plan.{IsReady, IsReplied}
use Rattle.plan_top.proofs.Planned.{answered}
use Rattle.plan_picture.specs.Outcome.{IsAnswerTo}
use Rattle.plan_picture.specs.Picture.{IsQueryPicture, picture_text, query_at}
use Rattle.plan_picture.specs.Seen.{IsFloor, IsPictureOf, given_seen, shown_seen}
use Rattle.plan_picture.specs.Shown.{Shown, reply_shown}
use Rattle.plan_picture.specs.declared.floor.Floor.{Floor}
use Rattle.plan_picture.specs.declared.command.Command.TheVariants.{Query}
use Rattle.plan_picture.proofs.Queries.{query_found, none_at_zero, none_beyond}
use Rattle.plan_picture.proofs.answer.query_answer.Goals as goal

abbrev asked : Floor → List cross.Query → Document
asked f qs = record { scene = scene_seen (given_seen f); task = queries (map query_seen qs) }

-- the picture of the query at a place
pictured : (f : Floor) (qs : List cross.Query) (place : ℕ) (default : cross.Query) (answer : Answer) (shown : Shown) (text : List ℕ) → IsFloor f → place < length qs → IsReplied f.stand (query_seen (get_or qs place default)) answer
    → shown ≡ reply_shown (suc place) answer → IsPictureOf f (get_or qs place default) shown text → IsQueryPicture (suc place) (asked f qs) text
pictured f qs place default answer shown text is_floor within replied is_shown picture =
    let ready : IsReady (asked f qs) f.stand (map query_seen qs) = record { given = given_seen f; is_given = refl; is_first = is_floor.is_first; are_queries = refl } in
    record {
      given = given_seen f;
      is_given = refl;
      first = f.stand;
      is_first = is_floor.is_first;
      query = get_or qs place default;
      is_query = query_found qs place default within;
      answer = answer;
      is_answer = answered (asked f qs) f.stand (map query_seen qs) ready (query_seen (get_or qs place default)) answer replied;
      drawn = picture.drawn;
      is_drawn = picture.is_drawn;
      is_text = picture.is_text ∙ ap (picture_text (given_seen f) picture.drawn (get_or qs place default)) is_shown;
    }

pub returns-then-at-eq0 : goal.returns-then-at-eq0
returns-then-at-eq0 c =
    let number = c.args.number in
    let qs = c.args.queries.now in
    let d = asked c.args.floor.now qs in
    let none : query_at (map query_seen qs) number ≡ None =
    ⊎_elim (λ e. subst (λ k. query_at (map query_seen qs) k ≡ None) (sym (sym c.from-at.ensures ∙ e)) (none_at_zero (map query_seen qs)))
    (λ h. none_beyond (map query_seen qs) number (subst (λ n. n < number) (sym (length-map qs query_seen)) (subst (λ k. length qs < k) c.from-at.ensures h.1)))
    c.then-at-eq0.either in
    IfOk-weaker c.usage.result _ _ (λ answer h. subst (λ s. IsAnswerTo (Query number) d s answer.text.items) (sym h.0) (none, h.1)) c.usage.ensures

pub returns : goal.returns
returns c =
    let f = c.args.floor.now in
    let qs = c.args.queries.now in
    let at = c.from-at.result in
    let text = c.in_ok-text.text.items in
    let answer = answer_seen c.in-Ok.reply in
    let some = c.if-at-eq0.false in
    let most = c.if-queries-at.false in
    let place = at - 1 in
    let number : c.args.number ≡ suc place = sym c.from-at.ensures ∙ omega arith in
    let shown = c.in_ok-shown.ensures ∙ ap (λ k. reply_shown k answer) number in
    subst (λ k. IsQueryPicture k (asked f qs) text) (sym number)
    (pictured f qs place _ answer (shown_seen c.in_ok-shown.shown) text c.requires.floor (omega arith) (record { is_reply = c.in-Ok.ensures.reply; lowest = c.in-Ok.ensures.lowest }) shown c.in_ok-text.ensures)
