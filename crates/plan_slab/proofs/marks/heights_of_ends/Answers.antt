-- On the line, at the y of the ends.
use Rattle.std.proofs.Common.{subst, ap}
use Rattle.plan_spec.specs.Pieces.{Piece}
use Rattle.plan_slab.specs.LineMarks.{IsYOf}
use Rattle.plan_slab.proofs.MarkValues.{at_end}
use Rattle.plan_slab.proofs.marks.heights_of_ends.Goals as goal

pub returns-clause-low : goal.returns-clause-low
returns-clause-low c =
    let e = ap (λ (p : Piece). p.part.a) c.piece.view_is in
    at_end c.args.line c.y_of.result c.args.piece.now.part.a c.requires.first (subst (λ p. IsYOf p c.y_of.result) e c.y_of.ensures.y)

pub returns-clause-high : goal.returns-clause-high
returns-clause-high c =
    let e = ap (λ (p : Piece). p.part.b) c.piece.view_is in
    at_end c.args.line c.y_of-2.result c.args.piece.now.part.b c.requires.second (subst (λ p. IsYOf p c.y_of-2.result) e c.y_of-2.ensures.y)
