-- The rounds so far are those that the document tells so far.
use Rattle.std.specs.Vec.Iter.{into_iter_items, into_iter_len}
use Rattle.plan_top.specs.Played.{RoundFits, round_seen}
use Rattle.plan_wire.specs.Bounds.{TurnFits}
use Rattle.plan_wire.specs.Seen as wire
use Rattle.plan_top.proofs.OneByOne.{Making}
use Rattle.plan_top.proofs.session.rounds_of.Given as goal

abbrev pub invariant-loop-edits : goal.invariant-loop-edits
invariant-loop-edits l = Making TurnFits RoundFits wire.round_seen round_seen (into_iter_items l.initial.edits-iterator) l.yielded (into_iter_items l.edits-iterator) (into_iter_len l.edits-iterator) l.rounds.items
