-- Each line is the next one, whole or cut.
use Rattle.std.proofs.Common.{rules, ◌≡◌, ℕ, suc, ◌+◌, List, [], ◌∷◌, length, map, refl, ap, sym, ◌∙◌, arith}
use Rattle.std.specs.Vec.Iter.{into_iter_items}
use Rattle.std.proofs.lemmas.List.{nil_from_length}
use Rattle.std.proofs.lemmas.Result.{err_from_is_err_and}
use Rattle.plan_top.specs.Played.{said_seen}
use Rattle.plan_top.specs.Session.{Said, lane_line, lane_lines}
use Rattle.plan_top.proofs.WrittenLines.{all_left, fewer_left, cut_left, none_left}
use Rattle.plan_top.proofs.round_lines.write_lane.Goals as goal

-- the line of the first reply, and those of the others
next_said : {X : Type 0} (f : X → Said) (lane k : ℕ) (x : X) (items rest : List X) → items ≡ x ∷ rest → lane_lines lane k (map f items) ≡ lane_line lane k (f x) ∷ lane_lines lane (k + 1) (map f rest)
next_said f lane k x items rest parts =
    let next : suc k ≡ k + 1 = omega arith in
    ap (λ l. lane_lines lane k (map f l)) parts ∙ ap (λ n. lane_line lane k (f x) ∷ lane_lines lane n (map f rest)) next

pub loop-said-init : goal.loop-said-init
loop-said-init g c =
    let gives = c.into_iter-said-iterator.ensures.into_iter_gives in
    record {
      known = search rules;
      number = let long = ap length gives.0 in omega arith;
      left = rw gives.0 (all_left _ _);
      count = refl;
    }

pub loop-said-preserved : goal.loop-said-preserved
loop-said-preserved g c =
    let next = next_said (λ s. said_seen (s.version, s.answer)) c.args.lane c.loop-said.number c.in-Some.said (into_iter_items c.loop-said.said-iterator) (into_iter_items c.next.new.self) c.in-Some.ensures.steps.0 in
    record {
      known = let was = c.loop-said.invariant.known in let gone = c.in-Some.ensures.steps.1 in let short = ap length c.in-Some.ensures.steps.0 in omega arith;
      number = let was = c.loop-said.invariant.number in let short = ap length c.in-Some.ensures.steps.0 in omega arith;
      left = fewer_left (g.K.Sink.written c.write_bytes.new.sink) (_ ∷ []) _ c.in_ok-write_bytes.field-0 next c.loop-said.invariant.left (c.in_ok-write_bytes.ensures.outcome _ c.reply_line-line.ensures);
      count = c.in_ok-write_bytes.ensures.count ∙ c.loop-said.invariant.count;
    }

pub returns-in_err-write_bytes-clause-outcome : goal.returns-in_err-write_bytes-clause-outcome
returns-in_err-write_bytes-clause-outcome g c =
    let next = next_said (λ s. said_seen (s.version, s.answer)) c.args.lane c.loop-said.number c.in-Some.said (into_iter_items c.loop-said.said-iterator) (into_iter_items c.next.new.self) c.in-Some.ensures.steps.0 in
    let p = err_from_is_err_and c.from_residual.result c.from_residual.ensures.1 in
    rw (p.1, p.2) (cut_left (g.K.Sink.written c.write_bytes.new.sink) (_ ∷ []) _ c.in_err-write_bytes.field-0.0 next c.loop-said.invariant.left (c.in_err-write_bytes.ensures.outcome _ c.reply_line-line.ensures))

pub returns-clause-outcome : goal.returns-clause-outcome
returns-clause-outcome g c =
    let none = nil_from_length (into_iter_items c.loop-said.said-iterator) (sym c.loop-said.invariant.known ∙ c.in-None.ensures.steps.0) in
    none_left tt (rw none at c.loop-said.invariant.left)
