-- The loop goes over the segments by number, and leaves at the first that is flat or loose.
use Rattle.std.proofs.Common.{◌≡◌, ◌<◌, ℕ, List, map, length, get_or, slice_get, IfSome, below_more, refl, sym, ◌∙◌, ap, subst, arith}
use Rattle.std.proofs.lemmas.List.{length-map, get_or-map}
use Rattle.plan_spec.specs.Reply.{IsFlat, IsLoose, IsSound, IsTight}
use Rattle.plan_grid.specs.Frame.{frame_seen}
use Rattle.plan_cross.specs.declared.segment.Segment.{Segment}
use Rattle.plan_cross.specs.Segment.{segment_seen}
use Rattle.plan_cross.proofs.First.{some_at, if_at, each_of, first_weaker}
use Rattle.plan_convex.specs.Piece.{sums_seen}
use Rattle.plan_check.specs.Touching.{IsProperAndTight}
use Rattle.plan_check.proofs.Each.{untrue}
use Rattle.plan_check.proofs.chain.first_unsound.Goals as goal

here : (ss : List Segment) (k : ℕ) (s : Segment) → k < length ss → s ≡ get_or ss k s → get_or (map segment_seen ss) k (segment_seen s) ≡ segment_seen s
here ss k s within is = get_or-map segment_seen ss k s (segment_seen s) within ∙ ap segment_seen (sym is)

pub returns-then-is_flat : goal.returns-then-is_flat
returns-then-is_flat c s g =
    let ss = c.args.segments.now in
    let k = c.loop-k.k in
    let t = c.index-segments-k.result in
    let P = IsProperAndTight (sums_seen c.args.sums.now) (frame_seen c.args.room) in
    let tight = IsTight (sums_seen c.args.sums.now) (frame_seen c.args.room) in
    let long = length-map ss segment_seen in
    first_weaker IsFlat P IsFlat (IsSound tight) (map segment_seen ss) k (λ i d w h. h) (λ i d w h. (h.0.2, h.1)) (record {
      bad = some_at IsFlat (map segment_seen ss) k (segment_seen t) (omega arith) (subst IsFlat (sym (here ss k t c.loop-k-test.true c.index-segments-k.is)) (c.if-is_flat.ensures.flat.0 refl));
      earlier = c.loop-k.invariant;
    })

pub returns-then-not-is_tight : goal.returns-then-not-is_tight
returns-then-not-is_tight c s g =
    let ss = c.args.segments.now in
    let k = c.loop-k.k in
    let t = c.index-segments-k.result in
    let P = IsProperAndTight (sums_seen c.args.sums.now) (frame_seen c.args.room) in
    let tight = IsTight (sums_seen c.args.sums.now) (frame_seen c.args.room) in
    let long = length-map ss segment_seen in
    first_weaker (IsLoose tight) P (IsLoose tight) (IsSound tight) (map segment_seen ss) k (λ i d w h. h) (λ i d w h. (h.0.2, h.1)) (record {
      bad = some_at (IsLoose tight) (map segment_seen ss) k (segment_seen t) (omega arith) (subst (IsLoose tight) (sym (here ss k t c.loop-k-test.true c.index-segments-k.is)) (λ h. untrue (c.if-is_flat.ensures.flat.1 h), λ h. untrue (c.if-not-is_tight.ensures.1 h)));
      earlier = c.loop-k.invariant;
    })

pub loop-k-preserved : goal.loop-k-preserved
loop-k-preserved c =
    let ss = c.args.segments.now in
    let k = c.loop-k.k in
    let t = c.index-segments-k.result in
    let P = IsProperAndTight (sums_seen c.args.sums.now) (frame_seen c.args.room) in
    let long = length-map ss segment_seen in
    let points = c.if-is_flat.ensures.points in
    below_more (λ j. IfSome (slice_get (map segment_seen ss) j) P) k c.loop-k.invariant
    (if_at P (map segment_seen ss) k (segment_seen t) (omega arith) (subst P (sym (here ss k t c.loop-k-test.true c.index-segments-k.is)) ((points.0, points.1, λ h. untrue (c.if-is_flat.ensures.flat.1 h)), c.if-not-is_tight.ensures.0 refl)))

pub returns : goal.returns
returns c s g =
    let ss = c.args.segments.now in
    let long = length-map ss segment_seen in
    each_of (IsProperAndTight (sums_seen c.args.sums.now) (frame_seen c.args.room)) (map segment_seen ss) (λ k within. c.loop-k.invariant k (omega arith))
