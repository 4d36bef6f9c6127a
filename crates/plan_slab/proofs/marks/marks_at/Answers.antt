-- The heights of one bar more.
use Rattle.std.proofs.Common.{◌+◌, sym, subst, arith}
use Rattle.plan_slab.proofs.HeightLists.{HeightsSoFar, heights_more, heights_at}
use Rattle.plan_slab.proofs.Pieces.{has_pieces}
use Rattle.plan_slab.proofs.RowMarks.{marks_of_line}
use Rattle.plan_slab.proofs.marks.marks_at.Goals as goal

pub loop-bar-preserved : goal.loop-bar-preserved
loop-bar-preserved c =
    let (fs, e, hf, are) = c.in_ok-add_marks.ensures in
    subst (HeightsSoFar c.args.line c.args.bars.now (c.loop-bar.bar-index + 1)) (sym e) (heights_more c.args.line c.args.bars.now c.loop-bar.bar-index c.bar-item.result c.loop-bar.marks.items fs c.loop-bar.invariant c.loop-bar-test.true c.bar-item.is hf are)

pub make_rising-requires : goal.make_rising-requires
make_rising-requires c = λ k d within. (c.loop-bar.invariant.heights k d within).ratio

pub returns-clause-heights : goal.returns-clause-heights
returns-clause-heights c = heights_at c.args.line c.args.bars.now c.loop-bar.bar-index c.loop-bar.marks.items _ (omega arith) c.loop-bar.invariant c.make_rising.ensures

pub returns-clause-marks : goal.returns-clause-marks
returns-clause-marks c = λ sums room pieces floor bound across. marks_of_line (has_pieces floor bound) c.args.line c.requires.line c.args.bars.now across.each (λ n within begins lasts. across.every n within (begins, lasts)) _ (returns-clause-heights c)
