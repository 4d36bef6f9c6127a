-- Each place is put behind a space; where nothing is left, all are put.
use Rattle.std.proofs.Common.{◌++◌, ap, sym, ◌∙◌, append_assoc}
use Rattle.std.specs.Prelude.{codes}
use Rattle.plan_svg.specs.Shapes.{place_text}
use Rattle.plan_wire.proofs.Puts.{others}
use Rattle.plan_svg.proofs.Puts.{behind, put_next, all_joined}
use Rattle.plan_svg.proofs.place.put_places.Goals as goal

pub loop-item-preserved : goal.loop-item-preserved
loop-item-preserved g c =
    put_next (behind (λ p. place_text (g.T.Placed.at p)) (codes " ")) _ c.loop-item.out.items c.put_place-in-loop-item.new.out.items (others c.args.items.now) c.loop-item.item-index c.item-item.result
    c.loop-item-test.true c.item-item.is
    (c.in_ok-put_place-2.ensures ∙ ap (λ l. l ++ place_text (g.T.Placed.at c.item-item.result)) c.in_ok-put.ensures ∙ append_assoc c.loop-item.out.items (codes " ") (place_text (g.T.Placed.at c.item-item.result)))
    c.loop-item.invariant

pub returns : goal.returns
returns g c =
    all_joined (λ p. place_text (g.T.Placed.at p)) (codes " ") c.args.out.now.items c.put_place.new.out.items c.loop-item.out.items c.args.items.now c.first-item.result c.loop-item.item-index
    c.in-len1-up.len_at_least c.first-item.is c.in_ok-put_place.ensures c.loop-item-test.false c.loop-item.invariant
