-- Each turn keeps the one that is told, or lets it go.
use Rattle.std.proofs.Common.{sym, ◌∙◌, ◌<◌, ◌≤◌, length, rules, arith, refl}
use Rattle.plan_watch.proofs.Telling.{none_told, next, keep_turn, drop_turn, left}
use Rattle.plan_watch.proofs.tell.tell_all.Goals as goal

pub loop-at-init : goal.loop-at-init
loop-at-init g c = none_told _ _ _ _ _ _ c.requires refl

pub tell_one-requires : goal.tell_one-requires
tell_one-requires g c =
    let lt : c.loop-at.at < length c.loop-at.watchers.items = search rules in
    next _ _ _ _ _ _ c.loop-at.watchers.items c.loop-at.at c.index_mut.result.now lt c.loop-at.invariant c.index_mut.ensures.value

pub loop-at-preserved-then-tell_one : goal.loop-at-preserved-then-tell_one
loop-at-preserved-then-tell_one g c =
    let lt : c.loop-at.at < length c.loop-at.watchers.items = search rules in
    let told = c.tell_one.ensures in
    keep_turn _ _ _ _ _ _ c.loop-at.watchers.items c.loop-at.at c.index_mut.result.now c.tell_one.new.watcher lt c.loop-at.invariant c.index_mut.ensures.value told.stays (sym told.answer ∙ c.if-tell_one.true) (told.heard, told.room, told.steady)

pub loop-at-preserved : goal.loop-at-preserved
loop-at-preserved g c =
    let lt : c.loop-at.at < length c.loop-at.watchers.items = search rules in
    let told = c.tell_one.ensures in
    drop_turn _ _ _ _ _ _ c.loop-at.watchers.items _ c.loop-at.at c.index_mut.result.now c.tell_one.new.watcher lt c.loop-at.invariant c.index_mut.ensures.value told.stays (sym told.answer ∙ c.if-tell_one.false) c.remove.ensures.items

pub returns-clause-left : goal.returns-clause-left
returns-clause-left g c =
    let end : length c.loop-at.watchers.items ≤ c.loop-at.at = omega (arith, c.loop-at-test.false, c.len.ensures) in
    (left _ _ _ _ _ _ c.loop-at.watchers.items c.loop-at.at end c.loop-at.invariant).0

pub returns-clause-steady : goal.returns-clause-steady
returns-clause-steady g c =
    let end : length c.loop-at.watchers.items ≤ c.loop-at.at = omega (arith, c.loop-at-test.false, c.len.ensures) in
    (left _ _ _ _ _ _ c.loop-at.watchers.items c.loop-at.at end c.loop-at.invariant).1
