-- A document of `check` has a query and a certificate.
use Rattle.plan_wire.specs.Seen.{document_seen}
use Rattle.plan_wire.specs.declared.documents.Want.TheVariants.{Check}
use Rattle.plan_top.proofs.ReadsTask.{of_document, of_check}
use Rattle.plan_top.proofs.answer.answer_to.Goals as goal

pub answer_of-requires-clause-proof : goal.answer_of-requires-clause-proof
answer_of-requires-clause-proof g c κs within = of_check c.in-Ok.document.task (of_document Check c.args.bytes.now (document_seen c.in-Ok.document) c.in-Ok.ensures.read)
