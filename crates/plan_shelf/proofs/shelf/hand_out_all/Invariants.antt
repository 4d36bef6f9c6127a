-- The readers so far have the list that is shown, and there is at most one for each place so far.
use Rattle.std.proofs.Common.{◌≡◌, ◌≤◌, All, length}
use Rattle.plan_shelf.specs.Tied.{Shows}
use Rattle.plan_shelf.proofs.shelf.hand_out_all.Given as goal

abbrev pub invariant-loop-place : goal.invariant-loop-place
invariant-loop-place g l = Shows l.last.seen.book l.last.seen.log l.writer × All (λ r. (r.shelf ≡ l.last.seen.book) × (r.list ≡ l.last.seen.log)) l.all.items × (length l.all.items ≤ l._place)
