-- Each line is the next one, whole or cut.
use Rattle.std.proofs.Common.{◌≡◌, ◌<◌, ℕ, suc, ◌+◌, List, [], ◌∷◌, length, map, drop, get_or, Result, ap, ◌∙◌, drop-cons, arith}
use Rattle.std.proofs.lemmas.List.{drop_all}
use Rattle.std.proofs.lemmas.Result.{err_from_is_err_and}
use Rattle.plan_crew.specs.Edited.{end_seen}
use Rattle.plan_crew.specs.declared.ends.EditEnd.TheVariants.{Accepted}
use Rattle.plan_reply.specs.declared.fault.StepFault.{StepFault}
use Rattle.plan_top.specs.Played.{ended_line, ended_lines}
use Rattle.plan_top.proofs.WrittenLines.{fewer_left, cut_left, none_left}
use Rattle.plan_top.proofs.round_lines.write_edits.Goals as goal

-- the line of the edit at this place, and those of the edits behind it
next_ended : {X : Type 0} (f : X → Result ℕ StepFault) (xs : List X) (at : ℕ) (d : X) → at < length xs
    → ended_lines (suc at) (map f (drop at xs)) ≡ ended_line (at + 1) (f (get_or xs at d)) ∷ ended_lines (suc (at + 1)) (map f (drop (at + 1) xs))
next_ended f xs at d within =
    let next : suc at ≡ at + 1 = omega arith in
    ap (λ l. ended_lines (suc at) (map f l)) (drop-cons xs at d within) ∙ ap (λ n. ended_line n (f (get_or xs at d)) ∷ ended_lines (suc n) (map f (drop n xs))) next

pub loop-at-preserved : goal.loop-at-preserved
loop-at-preserved g c =
    let next = next_ended (λ e. end_seen e) c.args.edits.now c.loop-at.at (Accepted 0) c.loop-at-test.true in
    record {
      left = fewer_left (g.K.Sink.written c.write_text.new.sink) (_ ∷ []) _ c.in_ok-write_text.field-0 next c.loop-at.invariant.left (c.in_ok-write_text.ensures.outcome _ c.edit_line-line.ensures);
      count = c.in_ok-write_text.ensures.count ∙ c.loop-at.invariant.count;
    }

pub returns-in_err-write_text-clause-outcome : goal.returns-in_err-write_text-clause-outcome
returns-in_err-write_text-clause-outcome g c =
    let next = next_ended (λ e. end_seen e) c.args.edits.now c.loop-at.at (Accepted 0) c.loop-at-test.true in
    let p = err_from_is_err_and c.from_residual.result c.from_residual.ensures.1 in
    rw (p.1, p.2) (cut_left (g.K.Sink.written c.write_text.new.sink) (_ ∷ []) _ c.in_err-write_text.field-0.0 next c.loop-at.invariant.left (c.in_err-write_text.ensures.outcome _ c.edit_line-line.ensures))

pub returns-clause-outcome : goal.returns-clause-outcome
returns-clause-outcome g c =
    none_left tt (rw (drop_all c.loop-at.at c.args.edits.now c.loop-at-test.false) at c.loop-at.invariant.left)
