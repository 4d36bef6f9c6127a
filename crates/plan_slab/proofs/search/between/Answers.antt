-- One lot more, or the first whose key is not below the limit; keys of later lots are no less.
use Rattle.std.proofs.Common.{◌≡◌, ◌≤◌, length, subst, arith}
use Rattle.std.proofs.lemmas.List.{length-map}
use Rattle.plan_slab.specs.declared.lot.Lot.TheVariants.{Cell}
use Rattle.plan_slab.specs.LotKeys.{key}
use Rattle.plan_slab.specs.Seen.{lot_seen}
use Rattle.plan_slab.proofs.LotNumbers.{AreKeysBelow, one_more_below, between}
use Rattle.plan_slab.proofs.search.between.Goals as goal

pub loop-end-init : goal.loop-end-init
loop-end-init c = λ n d from upto. absurd (omega (arith, from, upto))

pub loop-end-preserved : goal.loop-end-preserved
loop-end-preserved c = one_more_below c.args.lots.now c.key-limit.result c.first_from_near-start.result c.loop-end.end c.loop-end.invariant c.loop-end-test.true (omega (arith, c.key-in-loop-end.ensures))

pub returns-then-limit-key : goal.returns-then-limit-key
returns-then-limit-key c =
    let lots = c.args.lots.now in
    let start = c.first_from_near-start.result in
    let end = c.loop-end.end in
    let first = rw c.key.ensures at c.first_from_near-start.ensures in
    let below = subst (λ k. AreKeysBelow lots k start end) c.key-limit.ensures c.loop-end.invariant in
    between lots (key (lot_seen c.args.from)) (key (lot_seen c.args.to)) start end first (omega arith) below
    (λ n more within. let up = c.requires.rising end n (Cell 0 0) more within in omega (arith, up, c.if-limit-key.true, c.key-in-loop-end.ensures, c.key-limit.ensures))

pub returns : goal.returns
returns c =
    let lots = c.args.lots.now in
    let start = c.first_from_near-start.result in
    let first = rw c.key.ensures at c.first_from_near-start.ensures in
    let upto : start ≤ length lots = omega (arith, c.first_from_near-start.ensures.within, length-map lots lot_seen) in
    let e : c.loop-end.end ≡ length lots = omega arith in
    let below = subst (λ k. AreKeysBelow lots k start (length lots)) c.key-limit.ensures (subst (λ b. AreKeysBelow lots c.key-limit.result start b) e c.loop-end.invariant) in
    between lots (key (lot_seen c.args.from)) (key (lot_seen c.args.to)) start (length lots) first (omega arith) below (λ n more within. absurd (omega (arith, more, within)))
