-- The edits so far are the changes so far.
use Rattle.std.specs.Vec.Iter.{into_iter_items, into_iter_len}
use Rattle.plan_scene.specs.Edits.{IsEdit}
use Rattle.plan_wire.specs.Bounds.{ChangeFits}
use Rattle.plan_wire.specs.Seen as wire
use Rattle.plan_top.specs.Session.{edit_seen}
use Rattle.plan_top.proofs.OneByOne.{Making}
use Rattle.plan_top.proofs.session.edits_of.Given as goal

abbrev pub invariant-loop-change : goal.invariant-loop-change
invariant-loop-change l = Making ChangeFits IsEdit wire.edit_seen edit_seen (into_iter_items l.initial.change-iterator) l.yielded (into_iter_items l.change-iterator) (into_iter_len l.change-iterator) l.edits.items
