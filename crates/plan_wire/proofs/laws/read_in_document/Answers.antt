-- The certificate of a document is the one whose text it has.
use Rattle.plan_wire.proofs.ReadBack.Documents.{read_in_document}
use Rattle.plan_wire.proofs.laws.read_in_document.Goals as goal

pub returns : goal.returns
returns c = read_in_document
