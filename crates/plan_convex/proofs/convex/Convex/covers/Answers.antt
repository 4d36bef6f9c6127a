-- Each test is that of one edge, so either the spot is not left of one of them, or it is left of all.
use Rattle.std.proofs.Common.{refl, sym, subst, arith, below_more}
use Rattle.plan_spec.specs.Boundary.{IsLeft, StrictlyInside}
use Rattle.plan_grid.specs.Spot.{spot_seen, spots_seen}
use Rattle.plan_grid.proofs.Edges.{edge_at}
use Rattle.plan_convex.proofs.Covered.{strictly_by_number, left_of_each}
use Rattle.plan_convex.proofs.convex.Convex.covers.Goals as goal

pub returns-then-not-is_left : goal.returns-then-not-is_left
returns-then-not-is_left c =
    let spots = c.spots-spots.result.now in (
      λ no. absurd (cc),
      λ inside.
          let here = left_of_each spots (spot_seen c.args.z) c.loop-i.i c.loop-i-test.true (subst (λ l. StrictlyInside (spots_seen l) (spot_seen c.args.z)) (sym c.spots-spots.ensures.value) inside) in
          let e = c.is_left.ensures.1 here in absurd (cc),
    )

pub loop-i-preserved : goal.loop-i-preserved
loop-i-preserved c = below_more (λ k. IsLeft (spot_seen c.args.z) (edge_at c.spots-spots.result.now k)) c.loop-i.i c.loop-i.invariant (c.is_left.ensures.0 c.if-not-is_left.false)

pub returns : goal.returns
returns c =
    let spots = c.spots-spots.result.now in
    (λ yes. subst (λ l. StrictlyInside (spots_seen l) (spot_seen c.args.z)) c.spots-spots.ensures.value (strictly_by_number spots (spot_seen c.args.z) (λ k h. c.loop-i.invariant k (omega (arith, h, c.loop-i-test.false)))), λ inside. refl)
