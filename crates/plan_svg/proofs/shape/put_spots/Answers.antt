-- Places of spots are those of the points where they are.
use Rattle.std.proofs.Common.{◌++◌, ap, ◌∙◌}
use Rattle.std.specs.Prelude.{codes}
use Rattle.std.proofs.lemmas.Result.{on_ok_weaker}
use Rattle.plan_grid.specs.Spot.{spot_seen}
use Rattle.plan_svg.specs.Shapes.{place_text}
use Rattle.plan_svg.proofs.Puts.{joined_seen}
use Rattle.plan_svg.proofs.shape.put_spots.Goals as goal

pub returns : goal.returns
returns c =
    on_ok_weaker c.put_places.result (λ e. e ∙ ap (λ l. c.args.out.now.items ++ l) (joined_seen place_text (codes " ") spot_seen c.args.spots.now)) c.put_places.ensures
