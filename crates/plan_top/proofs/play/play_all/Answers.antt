-- Each round is told once it has ended, and then its lines are written.
use Rattle.std.proofs.Common.{◌≡◌, ◌<◌, length, map, refl, sym, ap, subst, ◌∙◌, arith}
use Rattle.std.proofs.lemmas.List.{length-map}
use Rattle.plan_crew.specs.Edited.{end_seen}
use Rattle.plan_top.specs.Played.{round_seen}
use Rattle.plan_top.specs.Session.{version_of}
use Rattle.plan_top.proofs.Histories.{scenes_of, scenes_length}
use Rattle.plan_top.proofs.PlayedRounds.{none_played, stopped, finished}
use Rattle.plan_top.proofs.ToldRounds.{LastHas}
use Rattle.plan_top.proofs.Turns.{first_has, fits_at, room_for, readers_stay, turn_of, turn_written, turn_cut, turn_without_memory}
use Rattle.plan_top.proofs.Watchers.{room_next}
use Rattle.plan_top.proofs.play.play_all.Goals as goal

pub loop-at-init : goal.loop-at-init
loop-at-init g c =
    let has = first_has c.args.editor.now.list c.args.obstacles c.requires.one c.requires.first in
    record {
      tied = c.requires.tied;
      readers = c.requires.readers;
      long = omega (arith, c.requires.one);
      numbered = has.0;
      last = has.1;
      room = λ k d within. let room = c.requires.room k d within in omega (arith, room);
      played = λ v is. none_played v (map round_seen c.args.rounds.now) c.args.editor.now.list (g.K.Sink.written c.args.sink.now) _ has.0 is;
      faults = refl;
    }

pub round-requires-clause-versions : goal.round-requires-clause-versions
round-requires-clause-versions g c κs within =
    let inv = c.loop-at.invariant in
    let lt = c.loop-at-test.true in
    let fits = fits_at c.args.rounds.now c.loop-at.at c.index-rounds-at.result c.requires.fits lt c.index-rounds-at.is in
    let long : length c.as_slice-edits.result.now ≡ length c.index-rounds-at.result.edits.items = ap (λ l. length l) c.as_slice-edits.ensures.value in
    room_for c.loop-at.editor.list (length c.as_slice-edits.result.now) c.loop-at.at inv.numbered inv.long (omega (arith, lt, c.requires.fits.few)) (omega (arith, long, fits.edits.few))

pub returns-in-Err-clause-outcome : goal.returns-in-Err-clause-outcome
returns-in-Err-clause-outcome g c v is =
    let mid = g.K.Sink.written c.loop-at.sink in
    stopped v.stand (map round_seen c.args.rounds.now) c.loop-at.editor.list (g.K.Sink.written c.args.sink.now) mid mid _ _ c.loop-at.at (c.loop-at.invariant.played v is)

pub tell_round-count-requires-clause-ends : goal.tell_round-count-requires-clause-ends
tell_round-count-requires-clause-ends g c =
    let inv = c.loop-at.invariant in
    let t = turn_of c.args.rounds.now c.loop-at.at c.index-rounds-at.result c.loop-at.editor.list c.round.new.editor.list c.loop-at.count c.in-Ok.end.edits.items c.as_slice.result.now (λ e. end_seen e) c.in-Ok.end.lanes.items (λ s. (s.version, s.answer)) c.as_slice-edits.result.now c.as_slice-lanes.result.now
    c.requires.fits c.loop-at-test.true c.index-rounds-at.is c.as_slice.ensures.value c.as_slice-edits.ensures.value c.as_slice-lanes.ensures.value inv.numbered inv.last c.in-Ok.ensures.round in
    t.told.can

pub write_round-requires-clause-edits : goal.write_round-requires-clause-edits
write_round-requires-clause-edits g c =
    let inv = c.loop-at.invariant in
    let t = turn_of c.args.rounds.now c.loop-at.at c.index-rounds-at.result c.loop-at.editor.list c.round.new.editor.list c.loop-at.count c.in-Ok.end.edits.items c.as_slice.result.now (λ e. end_seen e) c.in-Ok.end.lanes.items (λ s. (s.version, s.answer)) c.as_slice-edits.result.now c.as_slice-lanes.result.now
    c.requires.fits c.loop-at-test.true c.index-rounds-at.is c.as_slice.ensures.value c.as_slice-edits.ensures.value c.as_slice-lanes.ensures.value inv.numbered inv.last c.in-Ok.ensures.round in
    t.few_ends

pub write_round-requires-clause-lanes : goal.write_round-requires-clause-lanes
write_round-requires-clause-lanes g c =
    let inv = c.loop-at.invariant in
    let t = turn_of c.args.rounds.now c.loop-at.at c.index-rounds-at.result c.loop-at.editor.list c.round.new.editor.list c.loop-at.count c.in-Ok.end.edits.items c.as_slice.result.now (λ e. end_seen e) c.in-Ok.end.lanes.items (λ s. (s.version, s.answer)) c.as_slice-edits.result.now c.as_slice-lanes.result.now
    c.requires.fits c.loop-at-test.true c.index-rounds-at.is c.as_slice.ensures.value c.as_slice-edits.ensures.value c.as_slice-lanes.ensures.value inv.numbered inv.last c.in-Ok.ensures.round in
    (t.few_lanes, t.few_said)

pub returns-in-Err-WriteFault-clause-outcome : goal.returns-in-Err-WriteFault-clause-outcome
returns-in-Err-WriteFault-clause-outcome g c v is =
    let inv = c.loop-at.invariant in
    let t = turn_of c.args.rounds.now c.loop-at.at c.index-rounds-at.result c.loop-at.editor.list c.round.new.editor.list c.loop-at.count c.in-Ok.end.edits.items c.as_slice.result.now (λ e. end_seen e) c.in-Ok.end.lanes.items (λ s. (s.version, s.answer)) c.as_slice-edits.result.now c.as_slice-lanes.result.now
    c.requires.fits c.loop-at-test.true c.index-rounds-at.is c.as_slice.ensures.value c.as_slice-edits.ensures.value c.as_slice-lanes.ensures.value inv.numbered inv.last c.in-Ok.ensures.round in
    turn_cut c.args.rounds.now c.loop-at.at c.index-rounds-at.result c.loop-at.editor.list c.round.new.editor.list c.loop-at.count c.in-Ok.end.edits.items c.as_slice.result.now (λ e. end_seen e) c.in-Ok.end.lanes.items (λ s. (s.version, s.answer)) c.as_slice-edits.result.now t
    v.stand (g.K.Sink.written c.args.sink.now) (g.K.Sink.written c.loop-at.sink) (g.K.Sink.written c.write_round.new.sink) _ _ _ (inv.played v is) c.tell_round-count.ensures.told c.in-Err-WriteFault.field-0 c.in-Err-WriteFault.field-0-is c.in-Err-WriteFault.ensures.outcome

pub returns-in-Err-NoMemory-clause-outcome : goal.returns-in-Err-NoMemory-clause-outcome
returns-in-Err-NoMemory-clause-outcome g c v is =
    let inv = c.loop-at.invariant in
    let t = turn_of c.args.rounds.now c.loop-at.at c.index-rounds-at.result c.loop-at.editor.list c.round.new.editor.list c.loop-at.count c.in-Ok.end.edits.items c.as_slice.result.now (λ e. end_seen e) c.in-Ok.end.lanes.items (λ s. (s.version, s.answer)) c.as_slice-edits.result.now c.as_slice-lanes.result.now
    c.requires.fits c.loop-at-test.true c.index-rounds-at.is c.as_slice.ensures.value c.as_slice-edits.ensures.value c.as_slice-lanes.ensures.value inv.numbered inv.last c.in-Ok.ensures.round in
    turn_without_memory c.args.rounds.now c.loop-at.at c.index-rounds-at.result c.loop-at.editor.list c.round.new.editor.list c.loop-at.count c.in-Ok.end.edits.items c.as_slice.result.now (λ e. end_seen e) c.in-Ok.end.lanes.items (λ s. (s.version, s.answer)) c.as_slice-edits.result.now t
    v.stand (g.K.Sink.written c.args.sink.now) (g.K.Sink.written c.loop-at.sink) (g.K.Sink.written c.write_round.new.sink) _ _ _ (inv.played v is) c.tell_round-count.ensures.told c.in-Err-NoMemory.field-0 c.in-Err-NoMemory.field-0-is c.in-Err-NoMemory.ensures.outcome

pub loop-at-preserved : goal.loop-at-preserved
loop-at-preserved g c =
    let inv = c.loop-at.invariant in
    let lt : c.loop-at.at < 64 = omega (arith, c.loop-at-test.true, c.requires.fits.few) in
    let t = turn_of c.args.rounds.now c.loop-at.at c.index-rounds-at.result c.loop-at.editor.list c.round.new.editor.list c.loop-at.count c.in-Ok.end.edits.items c.as_slice.result.now (λ e. end_seen e) c.in-Ok.end.lanes.items (λ s. (s.version, s.answer)) c.as_slice-edits.result.now c.as_slice-lanes.result.now
    c.requires.fits c.loop-at-test.true c.index-rounds-at.is c.as_slice.ensures.value c.as_slice-edits.ensures.value c.as_slice-lanes.ensures.value inv.numbered inv.last c.in-Ok.ensures.round in
    record {
      tied = c.in-Ok.ensures.tied;
      readers = readers_stay c.loop-at.editor.shelf c.round.new.editor.shelf c.loop-at.readers.items c.round.new.readers.items c.in-Ok.ensures.shelf c.in-Ok.ensures.readers inv.readers;
      long = omega (arith, t.longer, inv.long);
      numbered = t.ended.numbered;
      last = subst (LastHas c.round.new.editor.list) (sym c.tell_round-count.ensures.count) t.told.last;
      room = room_next (λ w. (goal.Watcher-dyn g (w.vtable, w.value)).room w.value) c.loop-at.at (length c.as_slice-edits.result.now) c.loop-at.watchers.items c.tell_round-count.new.watchers.items lt t.few_edits c.tell_round-count.ensures.room inv.room;
      played = λ v is.
          turn_written c.args.rounds.now c.loop-at.at c.index-rounds-at.result c.loop-at.editor.list c.round.new.editor.list c.loop-at.count c.in-Ok.end.edits.items c.as_slice.result.now (λ e. end_seen e) c.in-Ok.end.lanes.items (λ s. (s.version, s.answer)) c.as_slice-edits.result.now t
          v.stand (g.K.Sink.written c.args.sink.now) (g.K.Sink.written c.loop-at.sink) (g.K.Sink.written c.write_round.new.sink) _ _ _ (inv.played v is) c.tell_round-count.ensures.told c.in-Ok-write_round.field-0 c.in-Ok-write_round.ensures.outcome;
      faults = c.in-Ok-write_round.ensures.count ∙ inv.faults;
    }

pub returns-in-Ok-told-clause-outcome : goal.returns-in-Ok-told-clause-outcome
returns-in-Ok-told-clause-outcome g c v is =
    let inv = c.loop-at.invariant in
    let end : c.loop-at.at ≡ length (map round_seen c.args.rounds.now) = omega (arith, c.loop-at-test.false, c.loop-at.auto.at-end, length-map c.args.rounds.now round_seen) in
    let long : length c.in-Ok-told.last.seen.log ≡ length c.loop-at.editor.list = ap (λ l. length l) c.in-Ok-told.ensures.told.1 in
    let last : c.in-Ok-told.last.place ≡ version_of (scenes_of c.loop-at.editor.list) = omega (arith, long, c.in-Ok-told.last.counted, scenes_length c.loop-at.editor.list) in
    finished v.stand (map round_seen c.args.rounds.now) c.loop-at.editor.list (g.K.Sink.written c.args.sink.now) (g.K.Sink.written c.loop-at.sink) (g.K.Sink.written c.write_end.new.sink) _ _ c.loop-at.at c.in-Ok-told.last.place c.write_end.result end last (inv.played v is) c.write_end.ensures.outcome

pub returns-in-Err-told-clause-outcome : goal.returns-in-Err-told-clause-outcome
returns-in-Err-told-clause-outcome g c v is =
    let mid = g.K.Sink.written c.loop-at.sink in
    stopped v.stand (map round_seen c.args.rounds.now) c.loop-at.editor.list (g.K.Sink.written c.args.sink.now) mid mid _ _ c.loop-at.at (c.loop-at.invariant.played v is)
