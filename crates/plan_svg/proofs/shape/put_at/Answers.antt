-- Four texts one after another.
use Rattle.std.specs.Prelude.{codes}
use Rattle.std.proofs.lemmas.Result.{on_ok_weaker}
use Rattle.plan_svg.specs.Decimal.{decimal_text}
use Rattle.plan_svg.specs.Shapes.{at_text}
use Rattle.plan_svg.proofs.Puts.{put_four}
use Rattle.plan_svg.proofs.shape.put_at.Goals as goal

pub returns : goal.returns
unfolding at_text
returns c =
    let p = c.args.at.now in
    on_ok_weaker c.put_y.result
    (put_four c.args.out.now.items (codes " href=\"#robot\" x=\"") (decimal_text p.x p.w) (codes "\" y=\"") (decimal_text p.y p.w) _ _ _ _ c.in_ok-put.ensures c.in_ok-put_x.ensures c.in_ok-put-2.ensures)
    c.put_y.ensures
