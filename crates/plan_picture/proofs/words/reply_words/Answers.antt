-- The words behind the number.
use Rattle.std.proofs.Common.{◌++◌, ap, sym, ◌∙◌}
use Rattle.std.specs.Prelude.{codes, decimal}
use Rattle.std.proofs.lemmas.List.{append_assoc}
use Rattle.std.proofs.lemmas.Result.{IfOk-weaker}
use Rattle.plan_reply.specs.Seen.{answer_seen}
use Rattle.plan_picture.specs.Words.{answer_words}
use Rattle.plan_picture.proofs.words.reply_words.Goals as goal

pub returns : goal.returns
returns c =
    let front = codes "query " ++ decimal c.args.number in
    IfOk-weaker c.format.result _ _
    (λ text e. e ∙ ap (λ t. front ++ (codes ": " ++ t)) c.in_ok-words.ensures ∙ sym (append_assoc front (codes ": ") (answer_words (answer_seen c.args.reply.now))))
    c.format.ensures.ok
