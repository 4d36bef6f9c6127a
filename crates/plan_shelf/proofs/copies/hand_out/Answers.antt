-- A new reader may be handed out, and take in what the writer knows: the writer knows the shelf that is shown.
use Rattle.plan_shelf.proofs.Rules.{admits, forks, merges}
use Rattle.plan_shelf.proofs.copies.hand_out.Goals as goal

pub reader-requires : goal.reader-requires
reader-requires g c = admits

pub tell-requires : goal.tell-requires
tell-requires g c = forks _ _

pub learn-requires-clause-rule : goal.learn-requires-clause-rule
learn-requires-clause-rule g c = merges _ _ _ _
