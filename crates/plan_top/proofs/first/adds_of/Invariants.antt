-- The edits so far add the obstacles so far.
use Rattle.std.specs.Vec.Iter.{into_iter_items, into_iter_len}
use Rattle.plan_wire.specs.Bounds.{ShapeFits}
use Rattle.plan_reply.specs.First as reply
use Rattle.plan_reply.specs.First.{IsAdd}
use Rattle.plan_top.specs.First.{obstacle_of}
use Rattle.plan_top.proofs.OneByOne.{Making}
use Rattle.plan_top.proofs.first.adds_of.Given as goal

abbrev pub invariant-loop-id : goal.invariant-loop-id
invariant-loop-id l = Making ShapeFits IsAdd obstacle_of (λ e. reply.obstacle_of e) (into_iter_items l.initial.id-iterator) l.yielded (into_iter_items l.id-iterator) (into_iter_len l.id-iterator) l.adds.items
