-- The path of the place around it, and then its own step.
use Rattle.std.proofs.Common.{rules, append_assoc}
use Rattle.plan_wire.proofs.Places.{path_of_member, path_of_element}
use Rattle.plan_wire.proofs.documents.place.Place.+path.Goals as goal

pub returns-in_ok-text-in-Member : goal.returns-in_ok-text-in-Member
returns-in_ok-text-in-Member t c =
    rw (c.in-Member.is, path_of_member c.in-Member.parent c.in-Member.name, ← c.in_ok-text-in-Member.ensures) (search (rules, append_assoc, c.format.ensures.ok))

pub returns-in_ok-text-in-Element : goal.returns-in_ok-text-in-Element
returns-in_ok-text-in-Element t c =
    rw (c.in-Element.is, path_of_element c.in-Element.parent c.in-Element.i, ← c.in_ok-text-in-Element.ensures) (search (rules, append_assoc, c.format-in-Element.ensures.ok))
