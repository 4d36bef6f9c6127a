-- The loop meets each edge once, and leaves at one that is right.
use Rattle.std.proofs.Common.{sym, subst, below_more, refl, ◌∙◌, arith}
use Rattle.plan_spec.specs.Polygon.{AreRight}
use Rattle.plan_grid.proofs.Edges.{edge_at, get_or-edges, length-edges}
use Rattle.plan_convex.proofs.convex.is_right_of_edge.Goals as goal

pub loop-i-preserved : goal.loop-i-preserved
loop-i-preserved c =
    below_more (λ k. ¬ (AreRight c.args.p.now c.args.q.now (edge_at c.args.spots.now k))) c.loop-i.i c.loop-i.invariant (λ h. let e = c.if-are_right.ensures.1 h in cc)

pub returns-then-are_right : goal.returns-then-are_right
returns-then-are_right c =
    let spots = c.args.spots.now in
    let s = edge_at spots c.loop-i.i in
    let e = get_or-edges spots c.loop-i.i s c.loop-i-test.true in
    let long = length-edges spots in
    let within = c.loop-i-test.true in
    (λ t. (c.loop-i.i, s, omega arith, e, c.if-are_right.ensures.0 refl), λ h. refl)

pub returns : goal.returns
returns c =
    let spots = c.args.spots.now in
    let long = length-edges spots in
    let past = c.loop-i-test.false in
    (λ t. absurd cc, λ (k, s, within, e, h). absurd (c.loop-i.invariant k (omega arith) (subst (AreRight c.args.p.now c.args.q.now) (sym e ∙ get_or-edges spots k s (omega arith)) h)))
