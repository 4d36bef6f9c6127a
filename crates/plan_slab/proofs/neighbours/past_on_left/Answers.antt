-- Numbers never fall, so a binary search finds the first that is past.
use Rattle.std.proofs.Common.{rules, leb}
use Rattle.std.proofs.lemmas.List.Sorted.{IsPartitionPoint-from_clause, IsPartitionedBy-leb}
use Rattle.plan_slab.proofs.NextTo.{past_of}
use Rattle.plan_slab.proofs.neighbours.past_on_left.Goals as goal

pub returns : goal.returns
returns c =
    let parted = IsPartitionedBy-leb (λ e. e.0) c.args.row.now c.args.mark c.requires.rising in
    let point = IsPartitionPoint-from_clause (λ e. leb e.0 c.args.mark) c.args.row.now c.partition_point.result c.partition_point.ensures.partitioned parted (λ a r q k. search rules) in
    past_of (λ e. e.0) c.args.row.now c.args.mark c.partition_point.result c.partition_point.ensures.bound point
