-- Those that were moved, and then those that are left, are the readers.
use Rattle.std.proofs.Common.{◌≡◌, ◌+◌, ◌≤◌, ◌++◌, length, map}
use Rattle.std.specs.Vec.{vec_capacity}
use Rattle.plan_crew.proofs.work.move_in.Given as goal

abbrev pub invariant-loop-readers : goal.invariant-loop-readers
invariant-loop-readers g l =
    (map (λ w. w.reader) l.works.items ++ l.readers.items ≡ l.fn.readers.items)
    × (length l.works.items + length l.readers.items ≤ vec_capacity l.works)
    × (vec_capacity l.readers ≡ vec_capacity l.fn.readers)

abbrev pub decreases-loop-readers : goal.decreases-loop-readers
decreases-loop-readers g l = length l.readers.items
