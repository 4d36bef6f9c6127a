-- A reader that is told nothing, or does not settle, is as it was.
use Rattle.std.proofs.Common.{rules, ◌≡◌, sym, subst}
use Rattle.plan_crew.specs.Works.{GoesOn}
use Rattle.plan_crew.proofs.Working.{goes_self}
use Rattle.plan_crew.proofs.settle.settle.Goals as goal

pub returns-in_err-told-clause-reader : goal.returns-in_err-told-clause-reader
returns-in_err-told-clause-reader g c = goes_self c.args.work.now.reader

pub returns-then-not-settle-clause-reader : goal.returns-then-not-settle-clause-reader
returns-then-not-settle-clause-reader g c =
    let same : c.settle.new.self ≡ c.args.work.now.reader = search rules in
    subst (λ r. GoesOn c.args.work.now.reader r) (sym same) (goes_self c.args.work.now.reader)
