-- Those that were moved back, and then those that are left, are the readers.
use Rattle.std.proofs.Common.{◌≡◌, ◌+◌, ◌≤◌, ◌++◌, length, map}
use Rattle.std.specs.Vec.{vec_capacity}
use Rattle.plan_crew.proofs.work.move_out.Given as goal

abbrev pub invariant-loop-works : goal.invariant-loop-works
invariant-loop-works g l =
    (l.readers.items ++ map (λ w. w.reader) l.works.items ≡ map (λ w. w.reader) l.fn.works.items)
    × (length l.readers.items + length l.works.items ≤ vec_capacity l.readers)

abbrev pub decreases-loop-works : goal.decreases-loop-works
decreases-loop-works g l = length l.works.items
