-- Where there is no memory for rings or for a shelf, nothing is played; else the first version has the stand's scene.
use Rattle.std.proofs.Common.{◌≡◌, [], ◌∷◌, All, length, map, refl, sym, ap, subst, ◌∙◌}
use Rattle.std.proofs.lemmas.List.Elements.{All-cons, All-nil}
use Rattle.plan_scene.specs.Scene.{IsScene}
use Rattle.plan_top.specs.Played.{round_seen}
use Rattle.plan_top.specs.declared.planning.Version.{Version}
use Rattle.plan_top.proofs.PlayedRounds.{nothing}
use Rattle.plan_top.proofs.play.play.Goals as goal

pub returns-in_default-clause-outcome : goal.returns-in_default-clause-outcome
returns-in_default-clause-outcome g c = nothing c.args.stand (map round_seen c.args.rounds.now) (g.K.Sink.written c.args.sink.now) _

pub returns-in_default-new-clause-outcome : goal.returns-in_default-new-clause-outcome
returns-in_default-new-clause-outcome g c = nothing c.args.stand (map round_seen c.args.rounds.now) (g.K.Sink.written c.args.sink.now) _

pub play_all-status-requires-clause-first : goal.play_all-status-requires-clause-first
play_all-status-requires-clause-first g c κs within =
    let version : Version = record { number = 0; stand = c.in-Ok.stand } in
    let count = c.count-obstacles.result in
    let is : c.in-Ok-start.editor.list ≡ version ∷ [] = c.in-Ok-start.ensures.editor.1 ∙ ap (λ v. v ∷ []) c.in-Ok-new.ensures.ok in
    let scene : IsScene c.in-Ok.stand = subst IsScene (c.scene.ensures ∙ sym c.in-Ok.ensures) c.count-obstacles.ensures.scene in
    let counted : count ≡ length c.in-Ok.stand.obstacles = c.count-obstacles.ensures.value ∙ ap (λ s. length s.obstacles) (c.scene.ensures ∙ sym c.in-Ok.ensures) in
    subst (All (λ (v : Version). (v.number ≡ 0) × IsScene v.stand × (count ≡ length v.stand.obstacles))) (sym is)
    (All-cons (λ (v : Version). (v.number ≡ 0) × IsScene v.stand × (count ≡ length v.stand.obstacles)) version [] (refl, scene, counted)
    (All-nil (λ (v : Version). (v.number ≡ 0) × IsScene v.stand × (count ≡ length v.stand.obstacles))))

pub returns-in-Ok-start-clause-outcome : goal.returns-in-Ok-start-clause-outcome
returns-in-Ok-start-clause-outcome g c =
    let version : Version = record { number = 0; stand = c.in-Ok.stand } in
    let is : c.in-Ok-start.editor.list ≡ version ∷ [] = c.in-Ok-start.ensures.editor.1 ∙ ap (λ v. v ∷ []) c.in-Ok-new.ensures.ok in
    rw (← c.in-Ok.ensures) (c.play_all-status.ensures.outcome version is)

pub returns-in-Err-clause-outcome : goal.returns-in-Err-clause-outcome
returns-in-Err-clause-outcome g c = nothing c.args.stand (map round_seen c.args.rounds.now) (g.K.Sink.written c.args.sink.now) _
