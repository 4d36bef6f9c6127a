-- From the span before it on.
use Rattle.std.proofs.Common.{map, subst}
use Rattle.plan_spec.specs.Regions as spec
use Rattle.plan_slab.specs.LotKeys.{key, AreBetween}
use Rattle.plan_slab.specs.Seen.{lot_seen}
use Rattle.plan_slab.proofs.neighbours.cell_before.Goals as goal

pub returns : goal.returns
returns c = subst (λ s. AreBetween (map lot_seen c.args.lots.now) (key (spec.cell c.args.slab s)) (key (spec.cell c.args.slab c.args.span)) c.between.result.start c.between.result.end) c.saturating_sub-from.ensures c.between.ensures
