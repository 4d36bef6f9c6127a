-- The lines of each lane are the next ones, all or the first of them.
use Rattle.std.proofs.Common.{rules, ◌≡◌, ℕ, suc, ◌+◌, ◌≤◌, List, ◌∷◌, ◌++◌, length, map, refl, ap, sym, ◌∙◌, arith}
use Rattle.std.specs.Vec.Iter.{into_iter_items}
use Rattle.std.proofs.lemmas.List.{nil_from_length}
use Rattle.std.proofs.lemmas.List.Elements.{All-head, All-rest}
use Rattle.std.proofs.lemmas.Result.{err_from_is_err_and}
use Rattle.plan_top.specs.Played.{said_seen}
use Rattle.plan_top.specs.Session.{Said, lane_lines, lanes_lines}
use Rattle.plan_top.proofs.WrittenLines.{all_left, fewer_left, cut_left, none_left}
use Rattle.plan_top.proofs.round_lines.write_lanes.Goals as goal

-- the lines of the first lane, and those of the others
next_lane : {X : Type 0} (f : X → List Said) (k : ℕ) (x : X) (items rest : List X) → items ≡ x ∷ rest → lanes_lines k (map f items) ≡ lane_lines k 1 (f x) ++ lanes_lines (k + 1) (map f rest)
next_lane f k x items rest parts =
    let next : suc k ≡ k + 1 = omega arith in
    ap (λ l. lanes_lines k (map f l)) parts ∙ ap (λ n. lane_lines k 1 (f x) ++ lanes_lines n (map f rest)) next

pub loop-lane-init : goal.loop-lane-init
loop-lane-init g c =
    let gives = c.into_iter-lane-iterator.ensures.into_iter_gives in
    record {
      known = search rules;
      number = let long = ap length gives.0 in omega arith;
      few = rw gives.0 c.requires.few.1;
      left = rw gives.0 (all_left _ _);
      count = refl;
    }

pub write_lane-requires : goal.write_lane-requires
write_lane-requires g c = record { few = All-head (λ v. length v.items ≤ 16) c.in-Some.lane (into_iter_items c.next.new.self) (rw c.in-Some.ensures.steps.0 at c.loop-lane.invariant.few) }

pub loop-lane-preserved : goal.loop-lane-preserved
loop-lane-preserved g c =
    let next = next_lane (λ v. map (λ s. said_seen (s.version, s.answer)) v.items) c.loop-lane.number c.in-Some.lane (into_iter_items c.loop-lane.lane-iterator) (into_iter_items c.next.new.self) c.in-Some.ensures.steps.0 in
    record {
      known = let was = c.loop-lane.invariant.known in let gone = c.in-Some.ensures.steps.1 in let short = ap length c.in-Some.ensures.steps.0 in omega arith;
      number = let was = c.loop-lane.invariant.number in let short = ap length c.in-Some.ensures.steps.0 in omega arith;
      few = All-rest (λ v. length v.items ≤ 16) c.in-Some.lane (into_iter_items c.next.new.self) (into_iter_items c.loop-lane.lane-iterator) c.in-Some.ensures.steps.0 c.loop-lane.invariant.few;
      left = fewer_left (g.K.Sink.written c.write_lane.new.sink) (lane_lines c.loop-lane.number 1 _) _ c.in_ok-write_lane.field-0 next c.loop-lane.invariant.left c.in_ok-write_lane.ensures.outcome;
      count = c.in_ok-write_lane.ensures.count ∙ c.loop-lane.invariant.count;
    }

pub returns-in_err-write_lane-clause-outcome : goal.returns-in_err-write_lane-clause-outcome
returns-in_err-write_lane-clause-outcome g c =
    let next = next_lane (λ v. map (λ s. said_seen (s.version, s.answer)) v.items) c.loop-lane.number c.in-Some.lane (into_iter_items c.loop-lane.lane-iterator) (into_iter_items c.next.new.self) c.in-Some.ensures.steps.0 in
    let p = err_from_is_err_and c.from_residual.result c.from_residual.ensures.1 in
    rw (p.1, p.2) (cut_left (g.K.Sink.written c.write_lane.new.sink) (lane_lines c.loop-lane.number 1 _) _ c.in_err-write_lane.field-0.0 next c.loop-lane.invariant.left c.in_err-write_lane.ensures.outcome)

pub returns-clause-outcome : goal.returns-clause-outcome
returns-clause-outcome g c =
    let none = nil_from_length (into_iter_items c.loop-lane.lane-iterator) (sym c.loop-lane.invariant.known ∙ c.in-None.ensures.steps.0) in
    none_left tt (rw none at c.loop-lane.invariant.left)
