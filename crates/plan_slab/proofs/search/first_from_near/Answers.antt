-- One lot more, or the first whose key is not less; keys of later lots are no less.
use Rattle.std.proofs.Common.{◌≡◌, length, map, subst, arith}
use Rattle.std.proofs.lemmas.List.{length-map}
use Rattle.plan_slab.specs.LotKeys.{IsFirstFrom}
use Rattle.plan_slab.specs.Seen.{lot_seen}
use Rattle.plan_slab.proofs.LotNumbers.{below_last, first_at}
use Rattle.plan_slab.proofs.search.first_from_near.Goals as goal

pub loop-at-init : goal.loop-at-init
loop-at-init c = c.are_below.ensures c.if-not-are_below.false

pub loop-at-preserved : goal.loop-at-preserved
loop-at-preserved c = below_last c.args.lots.now c.args.least c.loop-at.at c.requires c.loop-at-test.true (omega (arith, c.if-least-key.false, c.key.ensures))

pub returns-then-least-key : goal.returns-then-least-key
returns-then-least-key c = first_at c.args.lots.now c.args.least c.loop-at.at c.requires c.loop-at.invariant (λ here. omega (arith, c.if-least-key.true, c.key.ensures))

pub returns : goal.returns
returns c =
    let n = c.loop-at.at in
    let e : n ≡ length c.args.lots.now = omega (arith, c.loop-at.invariant.within, length-map c.args.lots.now lot_seen) in
    subst (IsFirstFrom (map lot_seen c.args.lots.now) c.args.least) e (first_at c.args.lots.now c.args.least n c.requires c.loop-at.invariant (λ here. absurd (omega (arith, here, e))))
