-- The loop goes over the segments by number, and leaves at the first that touches.
use Rattle.std.proofs.Common.{◌≡◌, ◌+◌, ◌-◌, min, length, get_or, slice_get, IfSome, below_more, refl, ◌∙◌, subst, ap₂, ap, arith}
use Rattle.std.proofs.lemmas.List.{get_or_default}
use Rattle.plan_spec.specs.Segment.{segment}
use Rattle.plan_spec.specs.Route.{legs}
use Rattle.plan_grid.specs.Frame.{frame_seen}
use Rattle.plan_convex.specs.Piece.{sums_seen}
use Rattle.plan_check.specs.Touching.{LegTouches, LegRunsClear}
use Rattle.plan_check.proofs.Each.{untrue}
use Rattle.plan_check.proofs.Legs.{some_leg, if_leg, each_leg}
use Rattle.plan_check.proofs.path.first_touching.Goals as goal
use Rattle.plan_check.proofs.path.first_touching.Goals.{Then-touches, Else-touches}

pub returns-then-touches : goal.returns-then-touches
returns-then-touches c =
    let path = c.args.path.now in
    let k = c.loop-k.k in
    let p = c.index-path-k.result in
    let q = c.index-path-min.result in
    let P = LegTouches (sums_seen c.args.sums.now) (frame_seen c.args.room) in
    let next : c.min.result ≡ min (k + 1) (length path - 1) = omega arith in
    let end : q ≡ get_or path (min (k + 1) (length path - 1)) p = c.index-path-min.is ∙ get_or_default path c.min.result q p (omega arith) ∙ ap (λ n. get_or path n p) next in
    record {
      bad = some_leg P path k p c.requires.some (omega arith) (subst P (ap₂ segment c.index-path-k.is end) (c.if-touches.ensures.touches.0 refl));
      earlier = c.loop-k.invariant;
    }

pub loop-k-preserved : goal.loop-k-preserved
loop-k-preserved c =
    let path = c.args.path.now in
    let k = c.loop-k.k in
    let p = c.index-path-k.result in
    let q = c.index-path-min.result in
    let P = LegRunsClear (sums_seen c.args.sums.now) (frame_seen c.args.room) in
    let next : c.min.result ≡ min (k + 1) (length path - 1) = omega arith in
    let end : q ≡ get_or path (min (k + 1) (length path - 1)) p = c.index-path-min.is ∙ get_or_default path c.min.result q p (omega arith) ∙ ap (λ n. get_or path n p) next in
    below_more (λ j. IfSome (slice_get (legs path) j) P) k c.loop-k.invariant
    (if_leg P path k p c.requires.some (omega arith) (subst P (ap₂ segment c.index-path-k.is end) (c.if-touches.ensures.points, λ h. untrue (c.if-touches.ensures.touches.1 h))))

pub returns : goal.returns
returns c = each_leg (LegRunsClear (sums_seen c.args.sums.now) (frame_seen c.args.room)) c.args.path.now c.requires.some (λ k within. c.loop-k.invariant k (omega arith))
