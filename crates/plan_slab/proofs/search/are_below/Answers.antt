-- Keys rise, so the last of them tells.
use Rattle.std.proofs.Common.{◌≡◌, ◌+◌, ◌-◌, ltb-true, map, subst, arith}
use Rattle.plan_slab.specs.LotKeys.{AreBelow}
use Rattle.plan_slab.specs.Seen.{lot_seen}
use Rattle.plan_slab.proofs.LotNumbers.{below_last}
use Rattle.plan_slab.proofs.search.are_below.Goals as goal

pub returns-then-last-lots : goal.returns-then-last-lots
returns-then-last-lots c = λ t.
    let n = c.args.number in
    let last = n - 1 in
    let next : last + 1 ≡ n = omega arith in
    subst (AreBelow (map lot_seen c.args.lots.now) c.args.least) next (below_last c.args.lots.now c.args.least last c.requires (omega arith) (let less = ltb-true _ _ t in omega (arith, less, c.key.ensures)))
