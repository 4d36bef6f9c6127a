-- First the line of the round is written, then those of its edits, then those of its lanes.
use Rattle.std.proofs.Common.{[], ◌∷◌, ◌++◌, map, refl, ap, sym}
use Rattle.std.proofs.lemmas.Result.{err_from_is_err_and}
use Rattle.plan_crew.specs.Edited.{end_seen}
use Rattle.plan_top.specs.Played.{ended_lines, said_seen}
use Rattle.plan_top.specs.Session.{round_line, lanes_lines}
use Rattle.plan_top.proofs.WrittenLines.{all_left, fewer_left, cut_left}
use Rattle.plan_top.proofs.round_lines.write_round.Goals as goal

pub returns-in_err-write_text-clause-outcome : goal.returns-in_err-write_text-clause-outcome
returns-in_err-write_text-clause-outcome g c =
    let ends = ended_lines 1 (map (λ e. end_seen e) c.args.end.edits.items) in
    let lanes = lanes_lines 1 (map (λ v. map (λ s. said_seen (s.version, s.answer)) v.items) c.args.end.lanes.items) in
    let p = err_from_is_err_and c.from_residual.result c.from_residual.ensures.1 in
    rw (p.1, p.2) (cut_left (g.K.Sink.written c.write_text.new.sink) (round_line c.args.number ∷ []) (ends ++ lanes) c.in_err-write_text.field-0.0 refl (all_left _ _) (c.in_err-write_text.ensures.outcome _ c.round_line-line.ensures))

pub returns-in_err-write_edits-clause-outcome : goal.returns-in_err-write_edits-clause-outcome
returns-in_err-write_edits-clause-outcome g c =
    let ends = ended_lines 1 (map (λ e. end_seen e) c.args.end.edits.items) in
    let lanes = lanes_lines 1 (map (λ v. map (λ s. said_seen (s.version, s.answer)) v.items) c.args.end.lanes.items) in
    let left = fewer_left (g.K.Sink.written c.write_text.new.sink) (round_line c.args.number ∷ []) (ends ++ lanes) tt refl (all_left _ (g.K.Sink.written c.args.sink.now)) (c.in_ok-write_text.ensures.outcome _ c.round_line-line.ensures) in
    let parts = ap (λ es. ended_lines 1 (map (λ e. end_seen e) es) ++ lanes) (sym c.as_slice.ensures.value) in
    let p = err_from_is_err_and c.from_residual-in_err-write_edits.result c.from_residual-in_err-write_edits.ensures.1 in
    rw (p.1, p.2) (cut_left (g.K.Sink.written c.write_edits.new.sink) (ended_lines 1 (map (λ e. end_seen e) c.as_slice.result.now)) lanes c.in_err-write_edits.field-0.0 parts left c.in_err-write_edits.ensures.outcome)

pub returns-clause-outcome : goal.returns-clause-outcome
returns-clause-outcome g c =
    let ends = ended_lines 1 (map (λ e. end_seen e) c.args.end.edits.items) in
    let lanes = lanes_lines 1 (map (λ v. map (λ s. said_seen (s.version, s.answer)) v.items) c.args.end.lanes.items) in
    let left = fewer_left (g.K.Sink.written c.write_text.new.sink) (round_line c.args.number ∷ []) (ends ++ lanes) tt refl (all_left _ (g.K.Sink.written c.args.sink.now)) (c.in_ok-write_text.ensures.outcome _ c.round_line-line.ensures) in
    let parts = ap (λ es. ended_lines 1 (map (λ e. end_seen e) es) ++ lanes) (sym c.as_slice.ensures.value) in
    let last = fewer_left (g.K.Sink.written c.write_edits.new.sink) (ended_lines 1 (map (λ e. end_seen e) c.as_slice.result.now)) lanes tt parts left c.in_ok-write_edits.ensures.outcome in
    last.together (g.K.Sink.written c.write_lanes.new.sink) c.write_lanes.result c.write_lanes.ensures.outcome
