-- A given scene has a first one or is refused.
use Rattle.plan_top.proofs.RefusedSessions.{refused_or_begun}
use Rattle.plan_top.proofs.laws.refused_or_begun.Goals as goal

pub returns : goal.returns
returns c = refused_or_begun
