-- No line has more than 131,072 marks.
use Rattle.std.proofs.Common.{[], subst, arith}
use Rattle.plan_slab.specs.Subdivision.{IsSubdivision}
use Rattle.plan_slab.proofs.slabs.Slabs.wall.Goals as goal

pub number-requires : goal.number-requires
number-requires c =
    let h : IsSubdivision c.args.self.now = subst IsSubdivision c.self.view_is c.self.invariant.subdivision in
    let rows = h.rows in
    omega (arith, c.requires.at, rows.few_marks c.args.line [] (omega (arith, c.requires.line, rows.line_count)))
