-- Each edit is told after those before it.
use Rattle.std.proofs.Common.{◌<◌, length, arith}
use Rattle.std.proofs.lemmas.List.{length-map}
use Rattle.plan_crew.specs.Edited.{end_seen}
use Rattle.plan_top.proofs.Watchers.{drop_at, drop_seen, none_told, long, next_can, one_more}
use Rattle.plan_top.proofs.tell.tell_round.Goals as goal

pub loop-at-init : goal.loop-at-init
loop-at-init g c = none_told _ _ _ c.args.edits.now _ c.args.obstacles c.args.watchers.now.items c.requires.ends

pub bounds-ends-at : goal.bounds-ends-at
bounds-ends-at g c =
    let same = long _ _ _ c.args.edits.now _ c.args.obstacles c.args.watchers.now.items c.loop-at.at c.loop-at.count c.loop-at.watchers.items c.loop-at.invariant in
    omega (arith, same, length-map c.args.ends.now (λ e. end_seen e), c.loop-at-test.true)

pub tell_edit-count-requires-clause-end : goal.tell_edit-count-requires-clause-end
tell_edit-count-requires-clause-end g c =
    let lt = c.loop-at-test.true in
    let same = long _ _ _ c.args.edits.now _ c.args.obstacles c.args.watchers.now.items c.loop-at.at c.loop-at.count c.loop-at.watchers.items c.loop-at.invariant in
    let there : c.loop-at.at < length c.args.ends.now = omega (arith, same, length-map c.args.ends.now (λ e. end_seen e), lt) in
    next_can _ _ _ c.args.edits.now _ c.args.obstacles c.args.watchers.now.items c.loop-at.at c.loop-at.count c.loop-at.watchers.items c.index-edits-at.result _ lt c.loop-at.invariant
    (drop_at c.args.edits.now c.loop-at.at c.index-edits-at.result lt c.index-edits-at.is) (drop_seen (λ e. end_seen e) c.args.ends.now c.loop-at.at _ there)

pub loop-at-preserved : goal.loop-at-preserved
loop-at-preserved g c =
    let lt = c.loop-at-test.true in
    let same = long _ _ _ c.args.edits.now _ c.args.obstacles c.args.watchers.now.items c.loop-at.at c.loop-at.count c.loop-at.watchers.items c.loop-at.invariant in
    let there : c.loop-at.at < length c.args.ends.now = omega (arith, same, length-map c.args.ends.now (λ e. end_seen e), lt) in
    one_more _ _ _ c.args.edits.now _ c.args.obstacles c.args.watchers.now.items c.loop-at.at c.loop-at.count c.tell_edit-count.result c.loop-at.watchers.items c.tell_edit-count.new.watchers.items c.index-edits-at.result _ c.loop-at.invariant
    (drop_at c.args.edits.now c.loop-at.at c.index-edits-at.result lt c.index-edits-at.is) (drop_seen (λ e. end_seen e) c.args.ends.now c.loop-at.at _ there) c.tell_edit-count.ensures.told c.tell_edit-count.ensures.room c.tell_edit-count.ensures.count
