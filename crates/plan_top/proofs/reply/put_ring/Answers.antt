-- A kept text is that of the reply, and a new one is kept with the part of its start.
use Rattle.std.proofs.Common.{rules, ◌≡◌, ◌==◌, ◌∷◌, [], ◌++◌, position, refl, sym, ap, subst, ◌∙◌}
use Rattle.std.proofs.lemmas.Bool.{eqb-true}
use Rattle.std.proofs.lemmas.List.Elements.{All-push}
use Rattle.std.proofs.lemmas.List.Quantifiers.{position-Some}
use Rattle.plan_spec.specs.Answers.{by_chain}
use Rattle.plan_scene.specs.Scene.{IsScene}
use Rattle.plan_top.specs.Plan.{AreKept, IsKept, IsReplied, answer_text}
use Rattle.plan_top.specs.declared.kept.KeptRing.{KeptRing}
use Rattle.plan_top.proofs.KeptTexts.{put_again, kept_now}
use Rattle.plan_top.proofs.reply.put_ring.Goals as goal

pub returns-in-Some-clause-line : goal.returns-in-Some-clause-line
returns-in-Some-clause-line c =
    let entry = c.index.result.now in
    let scene : IsScene c.args.stand.now = subst IsScene c.scene.ensures c.count.ensures.scene in
    let passes = λ (ring : KeptRing). ring.part == c.args.part in
    let found = position-Some passes c.args.kept.now.items c.in-Some.at entry (ap (position passes) (sym c.as_slice.ensures.value) ∙ sym c.in-Some.ensures) in
    let held : IsKept c.args.stand.now entry = subst (IsKept c.args.stand.now) (sym c.index.ensures) (c.requires.kept c.in-Some.at entry found.0) in
    let same : entry.part ≡ c.args.part = ap (λ (k : KeptRing). k.part) c.index.ensures ∙ eqb-true _ _ found.1 in
    let put : c.extend_from_slice.new.self.items ≡ c.args.line.now.items ++ entry.text.items = search rules in
    put_again c.args.stand.now c.args.query c.args.part c.requires.part c.same_ring.ensures scene entry held same c.args.line.now.items c.extend_from_slice.new.self.items put

pub returns-in_ok-map_err-in-Blocked-clause-line : goal.returns-in_ok-map_err-in-Blocked-clause-line
returns-in_ok-map_err-in-Blocked-clause-line c =
    let chain = c.in-Blocked.chain in
    let replied : IsReplied c.args.stand.now _ (by_chain chain) = record { is_reply = rw c.in-Blocked.is at c.in-Ok.ensures.reply; lowest = rw c.in-Blocked.is at c.in-Ok.ensures.lowest } in
    record { answer = by_chain chain; is_replied = replied; is_text = search rules }

pub returns-in_ok-map_err-in-Blocked-clause-kept : goal.returns-in_ok-map_err-in-Blocked-clause-kept
returns-in_ok-map_err-in-Blocked-clause-kept c =
    let chain = c.in-Blocked.chain in
    let replied : IsReplied c.args.stand.now _ (by_chain chain) = record { is_reply = rw c.in-Blocked.is at c.in-Ok.ensures.reply; lowest = rw c.in-Blocked.is at c.in-Ok.ensures.lowest } in
    let text : c.put_answer.new.text.items ≡ answer_text (by_chain chain) = search rules in
    let entry : KeptRing = record { part = c.args.part; text = c.put_answer.new.text } in
    let pushed : c.push.new.self.items ≡ c.args.kept.now.items ++ entry ∷ [] = rw (c.push.ensures.items, ← c.map_err.ensures.variant, c.in_ok-map_err-in-Blocked.was) refl in
    subst (AreKept c.args.stand.now) (sym pushed) (All-push (IsKept c.args.stand.now) c.args.kept.now.items entry c.requires.kept (kept_now c.args.stand.now c.args.query c.args.part c.requires.part chain replied entry refl text))
