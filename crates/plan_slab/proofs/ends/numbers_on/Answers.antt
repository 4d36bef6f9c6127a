-- One number more, which is not beyond that of the next span.
use Rattle.std.proofs.Common.{◌≡◌, suc, ◌+◌, ◌≤◌, map, get_or, sym, ap, ◌∙◌, subst, arith}
use Rattle.std.proofs.lemmas.List.{length-map}
use Rattle.plan_spec.specs.Slabs.{nothing}
use Rattle.plan_spec.specs.Neighbours.{meets}
use Rattle.plan_slab.specs.Seen.{marks_seen, strand_seen}
use Rattle.plan_slab.proofs.MarkNumbers.{IsNumberAt, strand_at, are_meets}
use Rattle.plan_slab.proofs.OneByOne.{HasEach, has_none, has_more}
use Rattle.plan_slab.proofs.ends.numbers_on.Goals as goal

pub loop-i-init : goal.loop-i-init
loop-i-init c =
    let P = IsNumberAt (map strand_seen c.args.spans.now) (marks_seen c.args.line c.args.marks.now) in
    record { numbers = subst (HasEach P 0) (sym c.new-numbers.ensures.items) (has_none P); next = λ within. omega arith }

pub number_on-at-requires-clause-from : goal.number_on-at-requires-clause-from
number_on-at-requires-clause-from c =
    let spans = c.args.spans.now in
    let ms = marks_seen c.args.line c.args.marks.now in
    subst (λ s. c.loop-i.at ≤ meets s ms) (sym (strand_at spans c.loop-i.i _ c.loop-i-test.true)) (c.loop-i.invariant.next (omega (arith, length-map spans strand_seen)))

pub loop-i-preserved : goal.loop-i-preserved
loop-i-preserved c =
    let i = c.loop-i.i in
    let spans = c.args.spans.now in
    let ss = map strand_seen c.args.spans.now in
    let ms = marks_seen c.args.line c.args.marks.now in
    let n = c.number_on-at.result in
    let is : n ≡ meets (get_or ss i nothing) ms = c.number_on-at.ensures.number ∙ ap (λ s. meets s ms) (strand_at spans i _ c.loop-i-test.true) in
    let next : i + 1 ≡ suc i = omega arith in
    record {
      numbers = subst (HasEach (IsNumberAt ss ms) (i + 1)) (sym c.in_ok-push.ensures.items) (has_more (IsNumberAt ss ms) i c.loop-i.numbers.items n c.loop-i.invariant.numbers is);
      next = λ within. subst (λ j. n ≤ meets (get_or ss j nothing) ms) (sym next) (subst (λ m. m ≤ meets (get_or ss (suc i) nothing) ms) (sym is) (c.requires.order i (omega (arith, within))));
    }

pub returns : goal.returns
returns c = are_meets (map strand_seen c.args.spans.now) (marks_seen c.args.line c.args.marks.now) c.loop-i.i c.loop-i.numbers.items (omega (arith, length-map c.args.spans.now strand_seen)) c.loop-i.invariant.numbers
