-- The loop leaves at a spot on another side; a spot that it passes is on this one.
use Rattle.std.proofs.Common.{pos, below_more, refl, arith}
use Rattle.std.proofs.lemmas.List.Elements.{All-from_get_or}
use Rattle.plan_spec.specs.Vector.{turn}
use Rattle.plan_grid.specs.Order.{IsSign}
use Rattle.plan_grid.specs.Spot.{spot_seen}
use Rattle.plan_grid.proofs.Spots.{corner}
use Rattle.plan_convex.proofs.Signs.{sign_differs, sign_same}
use Rattle.plan_convex.proofs.convex.are_all.Goals as goal

pub returns-then-ne : goal.returns-then-ne
returns-then-ne c = (λ e. absurd cc, λ all. absurd (sign_differs c.side_of.result c.args.side _ c.if-ne.ensures c.side_of.ensures (all c.loop-v.v-index _ c.loop-v-test.true)))

pub loop-v-preserved : goal.loop-v-preserved
loop-v-preserved c =
    below_more (λ k. IsSign c.args.side (turn c.args.p.now c.args.q.now (spot_seen (corner c.args.spots.now k)))) c.loop-v.v-index c.loop-v.invariant
    (sign_same c.side_of.result c.args.side _ c.if-ne.ensures c.side_of.ensures)

pub returns : goal.returns
returns c = (
  λ e. All-from_get_or (λ v. IsSign c.args.side (turn c.args.p.now c.args.q.now (spot_seen v))) c.args.spots.now (record { x = pos 0; y = pos 0 }) (λ k h. c.loop-v.invariant k (omega arith)),
  λ all. refl,
)
