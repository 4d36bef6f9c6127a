-- One obstacle more is there, and one less is left.
use Rattle.std.proofs.Common.{rules, ◌≡◌, ◌+◌, ◌-◌, suc, ◌∷◌, [], ◌++◌, List, length, map, All, refl, sym, ap, subst, ◌∙◌, length-append, arith}
use Rattle.std.proofs.lemmas.List.{map-append}
use Rattle.std.proofs.lemmas.List.Elements.{All-push}
use Rattle.plan_spec.specs.Placement.{Obstacle}
use Rattle.plan_wire.specs.Bounds.{ShapeFits}
use Rattle.plan_wire.specs.Seen.{shape_seen}
use Rattle.plan_wire.specs.declared.documents.Shape.{Shape}
use Rattle.plan_demo.specs.Demo.{obstacles, after_obstacles, rectangle}
use Rattle.plan_demo.proofs.FirstObstacles.{one_more, state_more}
use Rattle.plan_demo.proofs.draws.Draws.obstacles.Goals as goal

pub loop-at-preserved : goal.loop-at-preserved
loop-at-preserved c =
    let at = c.loop-at in
    let count = c.args.count in
    let shape : Shape = record { id = at.at + 1; spots = c.in_ok-spots.spots } in
    let test = c.loop-at-test.true in
    let one_less : count - at.at ≡ suc (count - (at.at + 1)) = omega arith in
    let next : at.at + 1 + 1 ≡ suc (at.at + 1) = omega arith in
    let seen : shape_seen shape ≡ record { id = at.at + 1; shape = rectangle at.self } = ap (λ vs. record { id = at.at + 1; shape = vs }) c.in_ok-spots.ensures.seen in
    let pushed : c.push.new.self.items ≡ at.shapes.items ++ shape ∷ [] = rw (c.push.ensures.items, ← c.map_err.ensures.variant, c.in_ok-map_err.was) refl in
    let longer = length-append at.shapes.items (shape ∷ []) in
    let long = at.invariant.long in
    let fits : ShapeFits shape = search rules in
    record {
      long = ap length pushed ∙ omega arith;
      fit = subst (All ShapeFits) (sym pushed) (All-push ShapeFits at.shapes.items shape at.invariant.fit fits);
      left =
          ap (λ (shapes : List Shape). map shape_seen shapes ++ obstacles (count - (at.at + 1)) (at.at + 1 + 1) c.rectangle.new.self) pushed
          ∙ ap (λ (os : List Obstacle). os ++ obstacles (count - (at.at + 1)) (at.at + 1 + 1) c.rectangle.new.self) (map-append shape_seen at.shapes.items (shape ∷ []))
          ∙ ap (λ s. (map shape_seen at.shapes.items ++ shape_seen shape ∷ []) ++ obstacles (count - (at.at + 1)) (at.at + 1 + 1) s) c.in_ok-spots.ensures.state
          ∙ one_more (map shape_seen at.shapes.items) (shape_seen shape) (count - at.at) (count - (at.at + 1)) (at.at + 1) (at.at + 1 + 1) at.self one_less next seen
          ∙ at.invariant.left;
      state = ap (after_obstacles (count - (at.at + 1))) c.in_ok-spots.ensures.state ∙ state_more (count - at.at) (count - (at.at + 1)) at.self one_less ∙ at.invariant.state;
    }
