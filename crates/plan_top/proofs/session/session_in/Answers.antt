-- A document of `session` has rounds.
use Rattle.plan_wire.specs.Seen.{document_seen}
use Rattle.plan_wire.specs.declared.documents.Want.TheVariants.{Session}
use Rattle.plan_top.proofs.ReadsTask.{of_document, of_session}
use Rattle.plan_top.proofs.session.session_in.Goals as goal

pub session_of-requires-clause-rounds : goal.session_of-requires-clause-rounds
session_of-requires-clause-rounds g c κs within = of_session c.in-Ok.document.task (of_document Session c.args.bytes.now (document_seen c.in-Ok.document) c.in-Ok.ensures.read)
