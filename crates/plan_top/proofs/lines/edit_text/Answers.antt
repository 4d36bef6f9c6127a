-- Two numbers with a space between.
use Rattle.std.proofs.Common.{◌++◌, sym, ◌∙◌}
use Rattle.std.specs.Prelude.{codes, decimal}
use Rattle.std.proofs.lemmas.List.{append_assoc}
use Rattle.std.proofs.lemmas.Result.{IfOk-weaker}
use Rattle.plan_top.proofs.lines.edit_text.Goals as goal

pub returns-in-NotSimple : goal.returns-in-NotSimple
returns-in-NotSimple c =
    let i = c.in-NotSimple.i in
    let j = c.in-NotSimple.j in
    rw c.in-NotSimple.is (IfOk-weaker c.format-in-NotSimple.result _ _ (λ text e. e ∙ sym (append_assoc (codes "not simple " ++ decimal i) (codes " ") (decimal j))) c.format-in-NotSimple.ensures.ok)
