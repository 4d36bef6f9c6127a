-- The loop goes over the segments by number, and leaves at the first with an end in the list.
use Rattle.std.proofs.Common.{◌≡◌, get_or, map, below_more, subst, sym, refl, ◌∙◌, ap, arith, IfSome, slice_get}
use Rattle.std.proofs.lemmas.List.{length-map, get_or-map}
use Rattle.plan_spec.specs.Segment.{Segment}
use Rattle.plan_cross.specs.Segment.{segment_seen}
use Rattle.plan_cross.specs.Ends.{EndsIn}
use Rattle.plan_cross.proofs.First.{some_at, if_at, each_of}
use Rattle.plan_cross.proofs.chain.first_ending_in.Goals as goal

pub returns-then-ends_in : goal.returns-then-ends_in
returns-then-ends_in c =
    let P = EndsIn c.args.points.now in
    let ss = c.args.segments.now in
    let k = c.loop-k.k in
    let s = c.index-segments-k.result in
    let long = length-map ss segment_seen in
    let here : get_or (map segment_seen ss) k (segment_seen s) ≡ segment_seen s = get_or-map segment_seen ss k s (segment_seen s) c.loop-k-test.true ∙ ap segment_seen (sym c.index-segments-k.is) in
    record {
      bad = some_at P (map segment_seen ss) k (segment_seen s) (omega arith) (subst P (sym here) (c.if-ends_in.ensures.0 refl));
      earlier = c.loop-k.invariant;
    }

pub loop-k-preserved : goal.loop-k-preserved
loop-k-preserved c =
    let P = λ (s : Segment). ¬ (EndsIn c.args.points.now s) in
    let ss = c.args.segments.now in
    let k = c.loop-k.k in
    let s = c.index-segments-k.result in
    let long = length-map ss segment_seen in
    let here : get_or (map segment_seen ss) k (segment_seen s) ≡ segment_seen s = get_or-map segment_seen ss k s (segment_seen s) c.loop-k-test.true ∙ ap segment_seen (sym c.index-segments-k.is) in
    below_more (λ j. IfSome (slice_get (map segment_seen ss) j) P) k c.loop-k.invariant
    (if_at P (map segment_seen ss) k (segment_seen s) (omega arith) (subst P (sym here) (λ h. let e = c.if-ends_in.ensures.1 h in cc)))

pub returns : goal.returns
returns c =
    let ss = c.args.segments.now in
    let long = length-map ss segment_seen in
    each_of (λ s. ¬ (EndsIn c.args.points.now s)) (map segment_seen ss) (λ k within. c.loop-k.invariant k (omega arith))
