-- The least and the greatest of the rounded coordinates.
use Rattle.plan_check.proofs.WholeBoxes.{whole_box}
use Rattle.plan_check.proofs.whole_box.whole_box.Goals as goal

pub returns : goal.returns
returns c =
    rw (c.least.ensures, c.greatest.ensures)
    (whole_box c.args.p.now c.args.q.now c.rounded_down.result c.rounded_down-2.result c.rounded_up.result c.rounded_up-2.result c.rounded_down.ensures c.rounded_down-2.ensures c.rounded_up.ensures c.rounded_up-2.ensures)
