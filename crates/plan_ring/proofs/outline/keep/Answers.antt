-- A cell is in a slab between two lines.
use Rattle.std.proofs.Common.{map, arith}
use Rattle.std.proofs.lemmas.List.{length-map}
use Rattle.plan_slab.specs.Seen.{strand_seen}
use Rattle.plan_ring.proofs.outline.keep.Goals as goal

pub keep_cell-requires-clause-slab : goal.keep_cell-requires-clause-slab
keep_cell-requires-clause-slab c = omega (arith, c.in-Cell.ensures.lot.0, c.in-Cell.ensures.slab_count, length-map c.args.slabs.now.spans (map strand_seen))
