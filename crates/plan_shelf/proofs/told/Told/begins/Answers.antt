-- Both lists begin the list that a token knows once it has learned both, so their places tell which is the longer.
use Rattle.std.proofs.Common.{ap, subst, List}
use mathlib.Core.List.{IsPrefix}
use Rattle.plan_shelf.proofs.Prefixes.{ordered}
use Rattle.plan_shelf.proofs.told.Told.begins.Goals as goal

pub returns-clause-order : goal.returns-clause-order
returns-clause-order g c =
    let both = c.learn.new.self.log in
    let this : IsPrefix c.args.self.now.seen.log both = subst (λ (l : List _). IsPrefix l both) (ap (λ s. s.log) c.again-both.ensures) c.learn.ensures.2 in
    ordered _ _ both _ _ c.args.self.now.counted c.args.other.now.counted this c.learn.ensures.3
