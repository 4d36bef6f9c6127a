-- Four texts one after another.
use Rattle.std.specs.Prelude.{codes}
use Rattle.std.proofs.lemmas.Result.{on_ok_weaker}
use Rattle.plan_svg.specs.Page.{view_text, corner_text, extent_text}
use Rattle.plan_svg.proofs.Puts.{put_four}
use Rattle.plan_svg.proofs.page.put_view.Goals as goal

pub returns : goal.returns
unfolding view_text
returns c =
    on_ok_weaker c.put_extent.result
    (put_four c.args.out.now.items (codes "<svg xmlns=\"http://www.w3.org/2000/svg\" viewBox=\"") (corner_text c.args.frame) (codes " ") (extent_text c.args.frame) _ _ _ _ c.in_ok-put.ensures c.in_ok-put_corner.ensures c.in_ok-put-2.ensures)
    c.put_extent.ensures
