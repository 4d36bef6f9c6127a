-- The readers stay where they are.
use Rattle.std.proofs.Common.{refl}
use Rattle.plan_crew.proofs.Working.{map_set}
use Rattle.plan_crew.proofs.collect.take_said.Goals as goal

pub returns-then-k-works-clause-readers : goal.returns-then-k-works-clause-readers
returns-then-k-works-clause-readers g c = map_set (λ w. w.reader) c.args.works.now c.args.k _ c.index-works-k.result c.if-k-works.true refl
