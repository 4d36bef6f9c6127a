-- Two numbers with a space between, and a line feed.
use Rattle.std.proofs.Common.{[], ◌∷◌, ◌++◌, sym, ◌∙◌}
use Rattle.std.specs.Prelude.{codes, decimal}
use Rattle.std.proofs.lemmas.List.{append_assoc}
use Rattle.std.proofs.lemmas.Result.{IfOk-weaker}
use Rattle.plan_top.proofs.lines.refusal_line.Goals as goal

pub returns-in-RobotNotSimple : goal.returns-in-RobotNotSimple
returns-in-RobotNotSimple c =
    let i = c.in-RobotNotSimple.i in
    let j = c.in-RobotNotSimple.j in
    let front = codes "refused: robot not simple " ++ decimal i in
    rw c.in-RobotNotSimple.is (IfOk-weaker c.format-in-RobotNotSimple.result _ _ (λ line e. e ∙ sym (append_assoc (front ++ codes " ") (decimal j) (10 ∷ []) ∙ append_assoc front (codes " ") (decimal j ++ 10 ∷ []))) c.format-in-RobotNotSimple.ensures.ok)
