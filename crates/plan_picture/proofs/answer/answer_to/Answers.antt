-- The document that is read for a command asks for what the command answers.
use Rattle.std.proofs.Common.{◌≡◌, Ok, subst}
use Rattle.plan_wire.specs.Documents.{document_of}
use Rattle.plan_wire.specs.Seen.{document_seen, task_seen}
use Rattle.plan_wire.specs.declared.documents.Task.{Task}
use Rattle.plan_top.proofs.ReadsTask as reads
use Rattle.plan_picture.specs.Outcome.{IsTaskOf, want_of}
use Rattle.plan_picture.specs.declared.command.Command.{Command}
use Rattle.plan_picture.specs.declared.command.Command.TheVariants.{Query, Check}
use Rattle.plan_picture.proofs.answer.answer_to.Goals as goal

of_command : (command : Command) (task : Task) → reads.IsTaskOf (want_of command) (task_seen task) → IsTaskOf command task
of_command (Query k) task h = reads.of_plan task h
of_command Check task h = reads.of_check task h

pub answer_of-requires-clause-task : goal.answer_of-requires-clause-task
answer_of-requires-clause-task g c κs within =
    let d = c.in-Ok.document in
    of_command c.args.command d.task
    (reads.of_document (want_of c.args.command) c.args.bytes.now (document_seen d) (subst (λ w. document_of c.args.bytes.now w ≡ Ok (document_seen d)) c.want_of.ensures c.in-Ok.ensures.read))
