-- One edit more, for the change that comes next.
use Rattle.std.proofs.Common.{◌≡◌, ◌∷◌, [], ◌++◌, length, map, refl, ap, ◌∙◌, arith}
use Rattle.std.specs.Vec.Iter.{into_iter_items, into_iter_len}
use Rattle.plan_scene.specs.Edits.{IsEdit}
use Rattle.plan_wire.specs.Bounds.{ChangeFits}
use Rattle.plan_wire.specs.Seen as wire
use Rattle.plan_top.specs.Session.{edit_seen}
use Rattle.plan_top.proofs.OneByOne.{all_seen, as_many, next_fits, one_more}
use Rattle.plan_top.proofs.session.edits_of.Goals as goal

pub edit_of-requires : goal.edit_of-requires
edit_of-requires c =
    let at = c.loop-change in
    next_fits ChangeFits IsEdit wire.edit_seen edit_seen _ at.yielded (into_iter_items at.change-iterator) (into_iter_len at.change-iterator) at.edits.items at.invariant c.in-Some.change (into_iter_items c.next.new.self) c.in-Some.ensures.steps.0

pub loop-change-preserved : goal.loop-change-preserved
loop-change-preserved c =
    let at = c.loop-change in
    let pushed : c.push.new.self.items ≡ at.edits.items ++ c.edit_of.result ∷ [] = rw (c.push.ensures.items, ← c.map_err.ensures.variant, c.in_ok-map_err.was) refl in
    one_more ChangeFits IsEdit wire.edit_seen edit_seen _ at.yielded (into_iter_items at.change-iterator) (into_iter_len at.change-iterator) at.edits.items at.invariant c.in-Some.change (into_iter_items c.next.new.self) (into_iter_len c.next.new.self) c.edit_of.result c.push.new.self.items
    c.in-Some.ensures.steps pushed c.edit_of.ensures.fits c.edit_of.ensures.seen

pub returns-clause-seen : goal.returns-clause-seen
returns-clause-seen c =
    let at = c.loop-change in
    all_seen ChangeFits IsEdit wire.edit_seen edit_seen _ at.yielded (into_iter_items at.change-iterator) (into_iter_len at.change-iterator) at.edits.items at.invariant c.in-None.ensures.steps.0
    ∙ ap (map wire.edit_seen) c.into_iter-change-iterator.ensures.into_iter_gives.0

pub returns-clause-fits : goal.returns-clause-fits
returns-clause-fits c =
    let at = c.loop-change in
    let many = as_many ChangeFits IsEdit wire.edit_seen edit_seen _ at.yielded (into_iter_items at.change-iterator) (into_iter_len at.change-iterator) at.edits.items at.invariant c.in-None.ensures.steps.0 in
    let given = ap length c.into_iter-change-iterator.ensures.into_iter_gives.0 in
    let few = c.requires.few in
    record { few = omega arith; each = at.invariant.fits }
