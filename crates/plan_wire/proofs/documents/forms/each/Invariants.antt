-- What was read so far stands before what the others are read as.
use Rattle.plan_wire.specs.Place.{path_of}
use Rattle.plan_wire.proofs.Each.{ReadSoFar}
use Rattle.plan_wire.proofs.documents.forms.each.Given as goal

abbrev pub invariant-loop-i : goal.invariant-loop-i
invariant-loop-i g l = ReadSoFar g.T.Form.reads g.T.Form.seen (path_of l.place) l.items l.all.items l.i
