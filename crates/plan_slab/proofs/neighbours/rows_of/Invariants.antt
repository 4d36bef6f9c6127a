-- The rows of the first regions.
use Rattle.std.proofs.Common.{map}
use Rattle.plan_slab.specs.Seen.{lot_seen}
use Rattle.plan_slab.proofs.OneByOne.{HasEach}
use Rattle.plan_slab.proofs.NextTo.{IsRowAt}
use Rattle.plan_slab.proofs.neighbours.rows_of.Given as goal

abbrev pub invariant-loop-i : goal.invariant-loop-i
invariant-loop-i l = HasEach (IsRowAt (map lot_seen l.lots) (map (λ v. v.items) l.ends)) l.i l.rows.items
