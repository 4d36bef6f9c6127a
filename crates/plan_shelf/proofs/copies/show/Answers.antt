-- The change may be shown: the last operation sets what is shown, and it is of the shelf that is shown already.
use Rattle.std.proofs.Common.{◌≡◌, drop}
use Rattle.plan_shelf.proofs.Rules.{shows}
use Rattle.plan_shelf.proofs.copies.show.Goals as goal

pub publish_as-requires : goal.publish_as-requires
publish_as-requires g c next is =
    let old = c.args.writer in
    let new = c.append.new.self in
    let same : c.args.next.seen.book ≡ new.desk.shown.value.told.seen.book = cc (c.requires, c.in-Ok.ensures.desk) in
    shows _ _ new.desk.shown.value next (drop old.behind old.log.items) (drop new.behind new.log.items) _ c.in-Ok.ensures.pending is same
