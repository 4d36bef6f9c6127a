-- What is printed is read back.
use Rattle.plan_wire.proofs.ReadBack.Certificates.{certificate_read_back}
use Rattle.plan_wire.proofs.laws.read_back.Goals as goal

pub returns : goal.returns
returns c = certificate_read_back
