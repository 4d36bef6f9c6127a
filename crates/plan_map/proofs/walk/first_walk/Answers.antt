use Rattle.std.proofs.Common.{◌≡◌, ◌-◌, suc, Some, ap, ◌∙◌, subst, arith}
use Rattle.plan_map.specs.Row.{in_row}
use Rattle.plan_map.specs.Search.{at}
use Rattle.plan_map.proofs.Graph.Distances.{of_unseen, of_seen}
use Rattle.plan_map.proofs.Graph.Joined.{not_joined}
use Rattle.plan_map.proofs.Graph.Rows.{row_of}
use Rattle.plan_map.proofs.Graph.Stepping.{IsOnWay, step_taken, some_step, way_goes_on, way_ends}
use Rattle.plan_map.proofs.walk.first_walk.Goals as goal

-- without a distance no walk leads to the goal
pub returns-in_default : goal.returns-in_default
returns-in_default c = not_joined (of_unseen c.args.start c.requires.measured c.in_default.is) c.args.start c.in_default.is

pub first_nearer-requires : goal.first_nearer-requires
first_nearer-requires c = λ n among. omega (arith, c.requires.rows.within n c.loop-left.here among, c.requires.size)

pub returns-in_default-first_nearer : goal.returns-in_default-first_nearer
returns-in_default-first_nearer c =
    let left : c.loop-left.left ≡ suc (c.loop-left.left - 1) = omega (arith, c.loop-left-test.true) in
    let from : at c.args.distances.now c.loop-left.here ≡ Some (suc (c.loop-left.left - 1)) = c.loop-left.invariant.way.distance ∙ ap Some left in
    absurd (some_step (row_of c.requires.rows c.loop-left.here c.loop-left.invariant.inside) c.requires.rows.both_ways (at c.args.distances.now) (c.loop-left.left - 1) c.requires.measured.down from c.in_default-first_nearer.ensures)

pub loop-left-preserved : goal.loop-left-preserved
loop-left-preserved c =
    let dist = at c.args.distances.now in
    let left : c.loop-left.left ≡ suc (c.loop-left.left - 1) = omega (arith, c.loop-left-test.true) in
    let from : at c.args.distances.now c.loop-left.here ≡ Some (suc (c.loop-left.left - 1)) = c.loop-left.invariant.way.distance ∙ ap Some left in
    let f = c.in-Some-first_nearer.ensures in
    let step = step_taken (row_of c.requires.rows c.loop-left.here c.loop-left.invariant.inside) c.requires.rows.both_ways dist (c.loop-left.left - 1) c.in-Some-first_nearer.next from f in
    let way = subst (λ k. IsOnWay (in_row c.args.rows.now) dist c.args.start c.loop-left.here k c.loop-left.taken.items) left c.loop-left.invariant.way in
    record {
      way = rw c.in_ok-push.ensures.items (way_goes_on c.in-Some-first_nearer.next way step f.has);
      inside = c.requires.rows.within c.in-Some-first_nearer.next c.loop-left.here (c.requires.rows.both_ways c.loop-left.here c.in-Some-first_nearer.next step.neighbour);
    }

pub returns : goal.returns
returns c =
    let none : c.loop-left.left ≡ 0 = omega (arith, c.loop-left-test.false) in
    way_ends c.args.goal c.in-Some.steps (of_seen c.args.start c.in-Some.steps c.requires.measured c.in-Some.is) c.in-Some.is (subst (λ k. IsOnWay (in_row c.args.rows.now) (at c.args.distances.now) c.args.start c.loop-left.here k c.loop-left.taken.items) none c.loop-left.invariant.way)
