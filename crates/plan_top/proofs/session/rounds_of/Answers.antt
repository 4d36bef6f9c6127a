-- One round more, for the one that the document tells next.
use Rattle.std.proofs.Common.{◌≡◌, ◌∷◌, [], ◌++◌, length, map, refl, ap, ◌∙◌, arith}
use Rattle.std.specs.Vec.Iter.{into_iter_items, into_iter_len}
use Rattle.plan_wire.specs.Bounds.{TurnFits}
use Rattle.plan_wire.specs.Seen as wire
use Rattle.plan_wire.specs.Seen.{query_seen}
use Rattle.plan_top.specs.Played.{RoundFits, round_seen}
use Rattle.plan_top.proofs.OneByOne.{all_seen, as_many, next_fits, one_more}
use Rattle.plan_top.proofs.session.rounds_of.Goals as goal

pub edits_of-requires : goal.edits_of-requires
edits_of-requires c =
    let at = c.loop-edits in
    let fits = next_fits TurnFits RoundFits wire.round_seen round_seen _ at.yielded (into_iter_items at.edits-iterator) (into_iter_len at.edits-iterator) at.rounds.items at.invariant c.in-Some.field-0 (into_iter_items c.next.new.self) c.in-Some.ensures.steps.0 in
    fits.edits

pub loop-edits-preserved : goal.loop-edits-preserved
loop-edits-preserved c =
    let at = c.loop-edits in
    let turn = c.in-Some.field-0 in
    let fits = next_fits TurnFits RoundFits wire.round_seen round_seen _ at.yielded (into_iter_items at.edits-iterator) (into_iter_len at.edits-iterator) at.rounds.items at.invariant turn (into_iter_items c.next.new.self) c.in-Some.ensures.steps.0 in
    let pushed : c.push.new.self.items ≡ at.rounds.items ++ record { edits = c.in_ok-edits.edits; lanes = turn.lanes } ∷ [] = rw (c.push.ensures.items, ← c.map_err.ensures.variant, c.in_ok-map_err.was) refl in
    one_more TurnFits RoundFits wire.round_seen round_seen _ at.yielded (into_iter_items at.edits-iterator) (into_iter_len at.edits-iterator) at.rounds.items at.invariant turn (into_iter_items c.next.new.self) (into_iter_len c.next.new.self) (record { edits = c.in_ok-edits.edits; lanes = turn.lanes }) c.push.new.self.items
    c.in-Some.ensures.steps pushed (record { edits = c.in_ok-edits.ensures.fits; lanes = fits.lanes }) (λ i. record { edits = c.in_ok-edits.ensures.seen i; lanes = map (λ lane. map query_seen lane.items) turn.lanes.items })

pub returns-clause-seen : goal.returns-clause-seen
returns-clause-seen c =
    let at = c.loop-edits in
    all_seen TurnFits RoundFits wire.round_seen round_seen _ at.yielded (into_iter_items at.edits-iterator) (into_iter_len at.edits-iterator) at.rounds.items at.invariant c.in-None.ensures.steps.0
    ∙ ap (map wire.round_seen) c.into_iter-edits-iterator.ensures.into_iter_gives.0

pub returns-clause-fits : goal.returns-clause-fits
returns-clause-fits c =
    let at = c.loop-edits in
    let many = as_many TurnFits RoundFits wire.round_seen round_seen _ at.yielded (into_iter_items at.edits-iterator) (into_iter_len at.edits-iterator) at.rounds.items at.invariant c.in-None.ensures.steps.0 in
    let given = ap length c.into_iter-edits-iterator.ensures.into_iter_gives.0 in
    let few = c.requires.few in
    record { few = omega arith; each = at.invariant.fits }
