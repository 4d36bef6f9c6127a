-- The law that the chain that is given is right.
use Rattle.plan_ring.proofs.OneKind.{canonical_chain}
use Rattle.plan_ring.proofs.laws.canonical_chain_is_right.Goals as goal

pub returns : goal.returns
returns c = canonical_chain
