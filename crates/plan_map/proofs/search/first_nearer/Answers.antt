use Rattle.std.proofs.Common.{◌≡◌, Some, arith}
use Rattle.plan_map.specs.Search.{at}
use Rattle.plan_map.proofs.Graph.Numbers.{first_of_numbers, none_of_numbers, some_equal}
use Rattle.plan_map.proofs.search.first_nearer.Goals as goal

pub returns-then-eq : goal.returns-then-eq
returns-then-eq c =
    let near : at c.args.distances.now c.loop-region.region ≡ Some c.args.left = some_equal (at c.args.distances.now c.loop-region.region) c.args.left c.if-eq.ensures in
    first_of_numbers (λ n. at c.args.distances.now n ≡ Some c.args.left) c.args.from c.args.to c.loop-region.region c.loop-region.invariant.begun c.loop-region-test.true near c.loop-region.invariant.none

pub returns : goal.returns
returns c = none_of_numbers (λ n. at c.args.distances.now n ≡ Some c.args.left) c.args.from c.args.to (λ m from to. c.loop-region.invariant.none m from (omega (arith, c.loop-region-test.false)))
