-- What was put so far stands before the texts of what is left, and what holds of each holds of what was put.
use Rattle.std.proofs.Common.{◌≡◌, ◌++◌, take, drop, All}
use Rattle.plan_wire.proofs.Puts.{behind_commas}
use Rattle.plan_wire.proofs.print.put_joined.Given as goal

abbrev pub invariant-loop-item : goal.invariant-loop-item
invariant-loop-item g l =
    (l.out.items ++ behind_commas g.T.Element.text (drop l.item-index l.rest) ≡ l.initial.out.items ++ behind_commas g.T.Element.text l.rest) × All g.T.Element.Holds (take l.item-index l.rest)
