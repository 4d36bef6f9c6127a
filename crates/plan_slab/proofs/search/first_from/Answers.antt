-- Keys rise, so a binary search finds the first.
use Rattle.std.proofs.Common.{rules, ltb}
use Rattle.std.proofs.lemmas.List.Sorted.{IsPartitionPoint-from_clause, IsPartitionedBy-ltb}
use Rattle.plan_slab.specs.LotKeys.{key}
use Rattle.plan_slab.specs.Seen.{lot_seen}
use Rattle.plan_slab.proofs.LotNumbers.{first_from}
use Rattle.plan_slab.proofs.search.first_from.Goals as goal

pub returns : goal.returns
returns c =
    let parted = IsPartitionedBy-ltb (λ lot. key (lot_seen lot)) c.args.lots.now c.args.least c.requires in
    let point = IsPartitionPoint-from_clause (λ lot. ltb (key (lot_seen lot)) c.args.least) c.args.lots.now c.partition_point.result c.partition_point.ensures.partitioned parted (λ a r q k. search rules) in
    first_from c.args.lots.now c.args.least c.partition_point.result c.partition_point.ensures.bound point
