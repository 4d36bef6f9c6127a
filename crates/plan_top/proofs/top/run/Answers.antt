-- A command that reads nothing takes no bytes.
use Rattle.std.proofs.Common.{◌+◌, ℕ, List, refl, arith}
use Rattle.std.specs.Prelude.{Option, Some, None}
use Rattle.plan_wire.specs.Documents.{most_bytes}
use Rattle.plan_wire.specs.Stream.{TakesAtMost}
use Rattle.plan_top.proofs.top.run.Goals as goal

takes_none : (most : ℕ) (told : Option (List ℕ)) → TakesAtMost most told told
takes_none most None = tt
takes_none most (Some bytes) = (0, omega arith, refl)

pub returns-in-Some-Demo-clause-taken : goal.returns-in-Some-Demo-clause-taken
returns-in-Some-Demo-clause-taken g c = takes_none (most_bytes + 1) (g.S.Source.remaining c.args.source.now)
