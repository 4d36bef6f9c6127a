-- The path of the document, and that of a place inside another.
use Rattle.std.proofs.Common.{◌≡◌, ℕ, List, codes, rules}
use Rattle.std.specs.Borrow.{Bor}
use Rattle.plan_wire.specs.Reading.{at_member, at_element}
use Rattle.plan_wire.specs.Place.{path_of}
use Rattle.plan_wire.specs.declared.documents.place.Place.{Place, Root, Member, Element, the_lemmas}

pub path_of_root : path_of Root ≡ codes "$"
path_of_root = search (rules, the_lemmas)

pub path_of_member : (parent : Bor Place) (name : Bor (List ℕ)) → path_of (Member parent name) ≡ at_member (path_of parent.now) name.now
path_of_member parent name = search (rules, the_lemmas)

pub path_of_element : (parent : Bor Place) (i : ℕ) → path_of (Element parent i) ≡ at_element (path_of parent.now) i
path_of_element parent i = search (rules, the_lemmas)
