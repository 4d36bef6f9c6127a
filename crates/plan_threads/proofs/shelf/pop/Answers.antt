-- What holds of all readers holds of the one that is taken out, and of the rest.
use Rattle.std.proofs.Common.{◌≡◌, Some}
use Rattle.std.proofs.lemmas.List.Elements.{All-pop}
use Rattle.plan_threads.proofs.shelf.pop.Goals as goal

pub returns-in-Some-clause-others : goal.returns-in-Some-clause-others
returns-in-Some-clause-others g c =
    (All-pop (λ r. r.shelf ≡ c.args.editor.now.shelf) c.args.readers.now.items c.pop.new.self.items c.pop.result c.pop.ensures.items c.requires).0

pub returns-in-Some-clause-one : goal.returns-in-Some-clause-one
returns-in-Some-clause-one g c =
    (All-pop (λ r. r.shelf ≡ c.args.editor.now.shelf) c.args.readers.now.items c.pop.new.self.items (Some c.in-Some.reader) c.in-Some.ensures.items c.requires).1

pub returns-in-None-clause-others : goal.returns-in-None-clause-others
returns-in-None-clause-others g c =
    (All-pop (λ r. r.shelf ≡ c.args.editor.now.shelf) c.args.readers.now.items c.pop.new.self.items c.pop.result c.pop.ensures.items c.requires).0
