-- A number and a text, and a line feed.
use Rattle.std.proofs.Common.{[], ◌∷◌, ◌++◌, ap, sym, ◌∙◌}
use Rattle.std.specs.Prelude.{codes, decimal}
use Rattle.std.proofs.lemmas.List.{append_assoc}
use Rattle.std.proofs.lemmas.Result.{IfOk-weaker}
use Rattle.plan_top.specs.Session.{step_text}
use Rattle.plan_top.proofs.round_lines.refused_line.Goals as goal

pub returns : goal.returns
returns c =
    let text = step_text c.args.fault in
    let front = codes "edit " ++ decimal c.args.number in
    IfOk-weaker c.format.result _ _
    (λ line e. e ∙ ap (λ t. front ++ (codes " refused " ++ (t ++ 10 ∷ []))) c.in_ok-text.ensures ∙ sym (append_assoc (front ++ codes " refused ") text (10 ∷ []) ∙ append_assoc front (codes " refused ") (text ++ 10 ∷ [])))
    c.format.ensures.ok
