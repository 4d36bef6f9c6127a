-- A document of `plan` has queries.
use Rattle.plan_wire.specs.Seen.{document_seen}
use Rattle.plan_wire.specs.declared.documents.Want.TheVariants.{Plan}
use Rattle.plan_top.proofs.ReadsTask.{of_document, of_plan}
use Rattle.plan_top.proofs.plan.plan_in.Goals as goal

pub plan_of-requires-clause-queries : goal.plan_of-requires-clause-queries
plan_of-requires-clause-queries g c κs within = of_plan c.in-Ok.document.task (of_document Plan c.args.bytes.now (document_seen c.in-Ok.document) c.in-Ok.ensures.read)
