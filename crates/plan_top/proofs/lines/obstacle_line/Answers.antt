-- A number and a text, with brackets and a line feed.
use Rattle.std.proofs.Common.{[], ◌∷◌, ◌++◌, ap, sym, ◌∙◌}
use Rattle.std.specs.Prelude.{codes, decimal}
use Rattle.std.proofs.lemmas.List.{append_assoc}
use Rattle.std.proofs.lemmas.Result.{IfOk-weaker}
use Rattle.plan_top.specs.Lines.{edit_text}
use Rattle.plan_top.proofs.lines.obstacle_line.Goals as goal

pub returns : goal.returns
returns c =
    let text = edit_text c.args.fault in
    let front = codes "refused: obstacles[" ++ decimal c.args.at in
    IfOk-weaker c.format.result _ _
    (λ line e. e ∙ ap (λ t. front ++ (codes "] " ++ (t ++ 10 ∷ []))) c.in_ok-text.ensures ∙ sym (append_assoc (front ++ codes "] ") text (10 ∷ []) ∙ append_assoc front (codes "] ") (text ++ 10 ∷ [])))
    c.format.ensures.ok
