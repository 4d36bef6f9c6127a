-- The changes so far are made, and there is room for those that are left.
use Rattle.std.proofs.Common.{length, ◌+◌, ◌-◌, ◌≡◌, ◌≤◌, map, take, slice_get}
use Rattle.std.specs.Prelude.{IfSome}
use mathlib.Core.List.{IsPrefix}
use Rattle.plan_shelf.specs.Tied.{IsTied}
use Rattle.plan_crew.specs.Edited.{AreEdits, end_seen}
use Rattle.plan_crew.proofs.edits.edit_all.Given as goal

abbrev pub invariant-loop-next : goal.invariant-loop-next
invariant-loop-next g l =
    IsTied l.editor × (l.editor.shelf ≡ l.fn.editor.shelf) × IsPrefix l.fn.editor.list l.editor.list × (l.next ≤ length l.edits)
    × AreEdits g.J.Job.version_of (g.J.Job.makes l.job) l.fn.editor.list l.editor.list (take l.next l.edits) (map (λ e. end_seen e) l.ends.items)
    × (length l.editor.list + (length l.edits - l.next) ≤ 2049)
    × IfSome (slice_get l.editor.list (length l.editor.list - 1)) (λ e. g.J.Job.version_of e + (length l.edits - l.next) ≤ 2048)

abbrev pub decreases-loop-next : goal.decreases-loop-next
decreases-loop-next g l = length l.edits - l.next
