-- Two numbers with a text between, and a line feed.
use Rattle.std.proofs.Common.{[], ◌∷◌, ◌++◌, sym, ◌∙◌}
use Rattle.std.specs.Prelude.{codes, decimal}
use Rattle.std.proofs.lemmas.List.{append_assoc}
use Rattle.std.proofs.lemmas.Result.{IfOk-weaker}
use Rattle.plan_top.proofs.round_lines.accepted_line.Goals as goal

pub returns : goal.returns
returns c =
    let version = decimal c.args.version in
    let front = codes "edit " ++ decimal c.args.number in
    IfOk-weaker c.format.result _ _ (λ line e. e ∙ sym (append_assoc (front ++ codes " version ") version (10 ∷ []) ∙ append_assoc front (codes " version ") (version ++ 10 ∷ []))) c.format.ensures.ok
