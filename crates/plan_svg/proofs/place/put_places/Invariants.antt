-- What was put so far stands before the texts of what is left.
use Rattle.std.proofs.Common.{◌≡◌, ◌++◌, drop}
use Rattle.std.specs.Prelude.{codes}
use Rattle.std.specs.List.{flat_map}
use Rattle.plan_svg.specs.Shapes.{place_text}
use Rattle.plan_svg.proofs.Puts.{behind}
use Rattle.plan_svg.proofs.place.put_places.Given as goal

abbrev pub invariant-loop-item : goal.invariant-loop-item
invariant-loop-item g l =
    l.out.items ++ flat_map (behind (λ p. place_text (g.T.Placed.at p)) (codes " ")) (drop l.item-index l.rest) ≡ l.initial.out.items ++ flat_map (behind (λ p. place_text (g.T.Placed.at p)) (codes " ")) l.rest
