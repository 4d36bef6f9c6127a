-- The denominator divides the width of the strand times that of the line.
use Rattle.plan_slab.proofs.MarkValues.{height_bounded}
use Rattle.plan_slab.proofs.marks.height_of.Goals as goal

pub returns-clause-bounded : goal.returns-clause-bounded
returns-clause-bounded c = height_bounded c.args.strand c.args.line c.height.result c.requires.line c.requires.over c.height.ensures.in_range c.height.ensures.value
